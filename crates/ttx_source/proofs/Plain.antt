-- Texts: in a text of codes below 128 each character is one byte.
use Rattle.std.proofs.Common.{◌≡◌, ◌++◌, replicate, ◌<◌, ◌≤◌, ◌+◌, ◌-◌, ◌*◌, ◌&&◌, true, length, List, ℕ, zero, suc, nat_lt, bit_or, []}
use Rattle.std.proofs.Common.{◌∷◌, arith, ap, refl, false, inl, inr}
use Rattle.std.specs.List.{list_all}
use Rattle.std.specs.Str.{chars, chars_after, continuation_len, lead_bits, IsAscii}
use Rattle.std.proofs.lemmas.Bool.{agree_below, agree_below_at, and_parts, cases_Bool}
use Rattle.std.proofs.lemmas.Bool.Decides.{nat_tests}
use Rattle.std.proofs.lemmas.Str.{chars-IsAscii}
use Rattle.std.proofs.lemmas.Str.Ascii.{IsAscii-nil, IsAscii-cons}

plain_ascii : (bs : List ℕ) → list_all (λ b. nat_lt b 128) bs ≡ true → IsAscii bs
plain_ascii [] h = IsAscii-nil
plain_ascii (b ∷ bs) h =
    let (here, more) = and_parts (nat_lt b 128) (list_all (λ b. nat_lt b 128) bs) h in
    let small : b < 128 = grind (arith, nat_tests) in
    IsAscii-cons b bs small (plain_ascii bs more)

pub plain_length : (bs : List ℕ) → list_all (λ b. nat_lt b 128) bs ≡ true → length (chars bs) ≡ length bs
plain_length bs h = ap length (chars-IsAscii bs (plain_ascii bs h))

-- spaces at the end change nothing
pub plain_padded : (bs : List ℕ) (n : ℕ) → list_all (λ b. nat_lt b 128) (bs ++ replicate n 32) ≡ list_all (λ b. nat_lt b 128) bs
plain_padded [] zero = refl
plain_padded [] (suc n) = plain_padded [] n
plain_padded (b ∷ bs) n = ap (λ rest. nat_lt b 128 && rest) (plain_padded bs n)

-- bit 7 is clear in a union exactly if it is clear in both parts
unions : agree_below (λ a. agree_below (λ b. nat_lt (bit_or a b) 128) (λ b. nat_lt a 128 && nat_lt b 128) 256) (λ _. true) 256 ≡ true
unions = refl

pub small_union : (a b : ℕ) → a < 256 → b < 256 → nat_lt (bit_or a b) 128 ≡ (nat_lt a 128 && nat_lt b 128)
small_union a b la lb =
    agree_below_at (λ b. nat_lt (bit_or a b) 128) (λ b. nat_lt a 128 && nat_lt b 128) 256 b
    (agree_below_at (λ a. agree_below (λ b. nat_lt (bit_or a b) 128) (λ b. nat_lt a 128 && nat_lt b 128) 256) (λ _. true) 256 a unions la) lb

-- a text does not have more characters than bytes
chars_after_le : (n c : ℕ) (bs : List ℕ) → length (chars_after n c bs) ≤ length bs + 1
chars_after_le zero c [] = omega arith
chars_after_le zero c (b ∷ bs) = let rest = chars_after_le (continuation_len b) (lead_bits b) bs in omega arith
chars_after_le (suc n) c [] = omega arith
chars_after_le (suc n) c (b ∷ bs) = let rest = chars_after_le n (c * 64 + (b - 128)) bs in omega arith

chars_le : (bs : List ℕ) → length (chars bs) ≤ length bs
unfolding chars
chars_le [] = omega arith
chars_le (b ∷ bs) = let rest = chars_after_le (continuation_len b) (lead_bits b) bs in omega arith

pub not_more : (a b : ℕ) → b ≤ a → nat_lt a b ≡ false
not_more a b le = grind (arith, nat_tests)

-- a text of few bytes is not too long
pub few_bytes : (bs : List ℕ) (most : ℕ) → length bs ≤ most → nat_lt most (length (chars bs)) ≡ false
few_bytes bs most few = let le = chars_le bs in grind (arith, nat_tests)

-- a text of many bytes but few characters has a code above 127
pub many_bytes : (bs : List ℕ) (most : ℕ) → most < length bs → length (chars bs) ≤ most → list_all (λ b. nat_lt b 128) bs ≡ false
many_bytes bs most many few = elim (cases_Bool (list_all (λ b. nat_lt b 128) bs)) [
  | inl plain ↦ let same = plain_length bs plain in absurd (omega arith)
  | inr e ↦ e
]
