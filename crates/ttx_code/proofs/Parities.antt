-- Odd parity, computed over all bytes.
use Rattle.std.proofs.Common.{◌≡◌, ◌⊎◌, ℕ, ◌<◌, ◌%◌, Bool, true, false, not, ◌&&◌, ◌||◌, refl, leb, eqb, ltb, arith, inl, inr, zero, suc, List, []}
use Rattle.std.proofs.Common.{◌∷◌, ◌++◌, length, get_or, take, drop, sym, ap, ◌∙◌, eq-eqb}
use Rattle.std.proofs.lemmas.Bool.{cases_Bool, agree_below, agree_below_at, eqb-true, le-leb, ltb-true, and_parts, and_from}
use Rattle.std.specs.List.{list_all, All, AllByRecursion}
use Rattle.std.proofs.lemmas.List.{take-append-drop}
use Rattle.std.proofs.lemmas.List.Elements.{All-from_get_or, recursion_from_All}
use Rattle.std.proofs.lemmas.List.Folds.{list_all-append}
use Rattle.ttx_code.proofs.Choices.{implied}
use lib.Lanes.{zip2}
use lib.Count.{ones_in, ones as count_ones}
use Rattle.ttx_code.specs.Words.{ones, distance, IsOdd, is_odd, odd_byte}
use Rattle.ttx_code.specs.Laws.{OddBytesUnderOneWrongBit, OddBytesHoldTheirCodes}
use Rattle.ttx_code.specs.declared.parity.TheConstants.{ODD_BYTES}

-- the standard library counts the ones as the definition does
pub ones_agree : agree_below (λ b. eqb (count_ones b) (ones b)) (λ _. true) 256 ≡ true
unfolding ones count_ones ones_in
ones_agree = refl

pub ones_at : (b : ℕ) → b < 256 → count_ones b ≡ ones b
ones_at b l = eqb-true _ _ (agree_below_at (λ b. eqb (count_ones b) (ones b)) (λ _. true) 256 b ones_agree l)

pub odd_byte_at : (n : ℕ) → n < 128 → get_or ODD_BYTES n 0 ≡ odd_byte n
unfolding ones
odd_byte_at n l = eqb-true _ _ (agree_below_at (λ n. eqb (get_or ODD_BYTES n 0) (odd_byte n)) (λ _. true) 128 n refl l)

abbrev pub odd_or_same : ℕ → ℕ → Bool
odd_or_same a b = not (leb (distance a b) 1 && is_odd a && is_odd b) || eqb b a

pub odd_bytes_table : agree_below (λ a. agree_below (odd_or_same a) (λ _. true) 256) (λ _. true) 256 ≡ true
unfolding ones distance
odd_bytes_table = refl

pub odd_bytes_under_one_wrong_bit : OddBytesUnderOneWrongBit
odd_bytes_under_one_wrong_bit sent received ls lr odd close =
    elim (cases_Bool (is_odd received)) as (λ _. (received ≡ sent) ⊎ (is_odd received ≡ false)) [
      | inl o ↦ inl (eqb-true _ _ (implied _ _
          (agree_below_at (odd_or_same sent) (λ _. true) 256 received
          (agree_below_at (λ a. agree_below (odd_or_same a) (λ _. true) 256) (λ _. true) 256 sent odd_bytes_table ls) lr)
          (and_from _ _ (and_from _ _ (le-leb _ _ close) odd) o)))
      | inr e ↦ inr e
    ]

abbrev pub holds_its_code : ℕ → Bool
holds_its_code c = is_odd (odd_byte c) && eqb (odd_byte c % 128) c && ltb (odd_byte c) 256

pub odd_bytes_hold_their_codes_table : agree_below holds_its_code (λ _. true) 128 ≡ true
unfolding ones
odd_bytes_hold_their_codes_table = refl

pub odd_bytes_hold_their_codes : OddBytesHoldTheirCodes
odd_bytes_hold_their_codes c l =
    let parts = and_parts _ _ (agree_below_at holds_its_code (λ _. true) 128 c odd_bytes_hold_their_codes_table l) in
    let first = and_parts _ _ parts.0 in
    (first.0, eqb-true _ _ first.1, ltb-true _ _ parts.1)

-- ---- parts of a list

pub All_odd-from_test : (xs : List ℕ) → list_all is_odd xs ≡ true → All IsOdd xs
All_odd-from_test xs e = All-from_get_or IsOdd xs 0 (λ k l. eqb-true _ _ (all_at xs k e l))
  where
    all_at : (xs : List ℕ) (k : ℕ) → list_all is_odd xs ≡ true → k < length xs → is_odd (get_or xs k 0) ≡ true
    all_at [] k e l = absurd (omega arith)
    all_at (x ∷ xs) zero e l = (and_parts _ _ e).0
    all_at (x ∷ xs) (suc k) e l = all_at xs k (and_parts (is_odd x) (list_all is_odd xs) e).1 (omega arith)

pub test_from_All_odd : (xs : List ℕ) → All IsOdd xs → list_all is_odd xs ≡ true
test_from_All_odd xs h = go xs (recursion_from_All IsOdd xs h)
  where
    go : (xs : List ℕ) → AllByRecursion IsOdd xs → list_all is_odd xs ≡ true
    go [] h = refl
    go (x ∷ xs) h = and_from _ _ (eq-eqb _ _ h.0) (go xs h.1)

pub all_of_parts : (test : ℕ → Bool) (n : ℕ) (xs : List ℕ) → (list_all test (take n xs) && list_all test (drop n xs)) ≡ list_all test xs
all_of_parts test n xs = sym (list_all-append test (take n xs) (drop n xs)) ∙ ap (list_all test) (take-append-drop n xs)

pub zip2_of_parts : (f : ℕ → ℕ → ℕ) (n : ℕ) (xs ys : List ℕ) → zip2 f (take n xs) (take n ys) ++ zip2 f (drop n xs) (drop n ys) ≡ zip2 f xs ys
zip2_of_parts f zero xs ys = refl
zip2_of_parts f (suc n) [] ys = refl
zip2_of_parts f (suc n) (x ∷ xs) [] = empty (drop n xs)
  where
    empty : (zs : List ℕ) → zip2 f zs [] ≡ []
    empty [] = refl
    empty (z ∷ zs) = refl
zip2_of_parts f (suc n) (x ∷ xs) (y ∷ ys) = ap (λ r. f x y ∷ r) (zip2_of_parts f n xs ys)
