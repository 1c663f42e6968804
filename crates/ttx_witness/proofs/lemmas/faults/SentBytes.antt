-- Bytes that send characters, tested by the union of all differences.
use Rattle.std.proofs.Common.{◌≡◌, ◌↔◌, ℕ, zero, suc, ◌+◌, ◌-◌, ◌*◌, ◌/◌, ◌%◌, ◌<◌, ◌≤◌, ◌==◌, ◌&&◌, Bool, true, List, [], ◌∷◌, map, length, get_or}
use Rattle.std.proofs.Common.{◌++◌, take, drop, bit_and, bit_or, refl, sym, ap, ◌∙◌, arith, eqb, ltb, eqb-true, eq-eqb}
use Rattle.std.proofs.lemmas.Bool.{agree_below, agree_below_at, ltb-true, and_from, and_parts}
use Rattle.std.proofs.lemmas.List.{drop-map, map-append, take-append-drop, take-map}
use Rattle.std.proofs.Math.Bool.{and-true, and_assoc}
use Rattle.std.specs.Int.Bits.{bit_xor}
use Rattle.ttx_packet.proofs.Unions.{no_bit}
use Rattle.ttx_code.specs.Words.{ones, odd_byte}

abbrev halves : ℕ → ℕ
halves c = bit_xor c (c / 16)

abbrev quarters : ℕ → ℕ
quarters c = bit_xor (halves c) (halves c / 4)

abbrev eighths : ℕ → ℕ
eighths c = bit_xor (quarters c) (quarters c / 2)

abbrev with_parity : ℕ → ℕ
with_parity c = bit_or c (bit_and (255 - eighths c) 1 * 128 % 256)

pub parity_is : (c : ℕ) → c < 128 → with_parity c ≡ odd_byte c
unfolding ones
parity_is c l = eqb-true _ _ (agree_below_at (λ c. eqb (with_parity c) (odd_byte c)) (λ _. true) 128 c refl l)

differences : agree_below (λ a. agree_below (λ b. bit_xor a b == 0) (λ b. a == b) 256) (λ _. true) 256 ≡ true
differences = refl

small : agree_below (λ a. agree_below (λ b. ltb (bit_xor a b) 256) (λ _. true) 256) (λ _. true) 256 ≡ true
small = refl

-- a union with a difference is zero exactly if the union was and the bytes are the same
pub union_more : (u a b : ℕ) → u < 256 → a < 256 → b < 256 → (bit_or u (bit_xor a b) == 0) ≡ ((u == 0) && (a == b))
union_more u a b lu la lb =
    let fits : bit_xor a b < 256 = ltb-true _ _
    (agree_below_at (λ b. ltb (bit_xor a b) 256) (λ _. true) 256 b
    (agree_below_at (λ a. agree_below (λ b. ltb (bit_xor a b) 256) (λ _. true) 256) (λ _. true) 256 a small la) lb) in
    no_bit u (bit_xor a b) lu fits
    ∙ ap (λ t. (u == 0) && t) (agree_below_at (λ b. bit_xor a b == 0) (λ b. a == b) 256 b
    (agree_below_at (λ a. agree_below (λ b. bit_xor a b == 0) (λ b. a == b) 256) (λ _. true) 256 a differences la) lb)

-- the first n bytes are those that send the first n characters
abbrev pub are_sent : ℕ → List ℕ → List ℕ → Bool
are_sent zero bytes characters = true
are_sent (suc n) [] characters = true
are_sent (suc n) (b ∷ bytes) [] = true
are_sent (suc n) (b ∷ bytes) (c ∷ characters) = (b == odd_byte c) && are_sent n bytes characters

sent_suc : (bytes characters : List ℕ) (i : ℕ) → i < length bytes → length bytes ≡ length characters →
    are_sent (suc i) bytes characters ≡ (are_sent i bytes characters && (get_or bytes i 0 == odd_byte (get_or characters i 0)))
sent_suc [] characters i lt e = absurd (omega arith)
sent_suc (b ∷ bytes) [] i lt e = absurd (omega arith)
sent_suc (b ∷ bytes) (c ∷ characters) zero lt e = and-true (b == odd_byte c)
sent_suc (b ∷ bytes) (c ∷ characters) (suc i) lt e =
    ap (λ t. (b == odd_byte c) && t) (sent_suc bytes characters i (omega arith) (omega arith))
    ∙ sym (and_assoc (b == odd_byte c) (are_sent i bytes characters) (get_or bytes i 0 == odd_byte (get_or characters i 0)))

pub sent_more : (bytes characters : List ℕ) (i : ℕ) → i < length bytes → length bytes ≡ length characters →
    are_sent (i + 1) bytes characters ≡ (are_sent i bytes characters && (get_or bytes i 0 == odd_byte (get_or characters i 0)))
sent_more bytes characters i lt e =
    let next : i + 1 ≡ suc i = omega arith in
    ap (λ n. are_sent n bytes characters) next ∙ sent_suc bytes characters i lt e

pub sent_whole : (bytes characters : List ℕ) (n : ℕ) → length bytes ≡ length characters → length bytes ≤ n →
    (are_sent n bytes characters ≡ true) ↔ (bytes ≡ map odd_byte characters)
sent_whole [] [] zero e le = ((λ t. refl), (λ q. refl))
sent_whole [] [] (suc n) e le = ((λ t. refl), (λ q. refl))
sent_whole [] (c ∷ characters) n e le = absurd (omega arith)
sent_whole (b ∷ bytes) [] n e le = absurd (omega arith)
sent_whole (b ∷ bytes) (c ∷ characters) zero e le = absurd (omega arith)
sent_whole (b ∷ bytes) (c ∷ characters) (suc n) e le =
    let rest = sent_whole bytes characters n (omega arith) (omega arith) in (
      (λ t. ap (λ x. x ∷ bytes) (eqb-true b (odd_byte c) ((and_parts _ _ t).0))
          ∙ ap (λ xs. odd_byte c ∷ xs) (rest.0 ((and_parts (b == odd_byte c) _ t).1))),
      (λ q. and_from _ _ (eq-eqb _ _ (ap (λ xs. get_or xs 0 0) q)) (rest.1 (ap (drop 1) q))),
    )

-- the first bytes and the rest are sent exactly if all are
pub whole_sent : (n : ℕ) (bytes characters : List ℕ) → take n bytes ≡ map odd_byte (take n characters) →
    drop n bytes ≡ map odd_byte (drop n characters) → bytes ≡ map odd_byte characters
whole_sent n bytes characters front back =
    sym (take-append-drop n bytes)
    ∙ ap (λ xs. xs ++ drop n bytes) front
    ∙ ap (λ xs. map odd_byte (take n characters) ++ xs) back
    ∙ sym (map-append odd_byte (take n characters) (drop n characters))
    ∙ ap (map odd_byte) (take-append-drop n characters)

pub front_sent : (n : ℕ) (bytes characters : List ℕ) → bytes ≡ map odd_byte characters → take n bytes ≡ map odd_byte (take n characters)
front_sent n bytes characters h = ap (take n) h ∙ take-map odd_byte n characters

pub back_sent : (n : ℕ) (bytes characters : List ℕ) → bytes ≡ map odd_byte characters → drop n bytes ≡ map odd_byte (drop n characters)
back_sent n bytes characters h = ap (drop n) h ∙ drop-map odd_byte n characters
