-- Texts that are cut at a byte.
use Rattle.std.proofs.Common.{◌≡◌, ℕ, suc, ◌+◌, ◌-◌, ◌<◌, Bool, true, false, List, [], ◌∷◌, length, slice_index, take, drop, Option, Some}
use Rattle.std.proofs.Common.{None, nat_lt, unwrap_or, refl, sym, ap, ◌∙◌, inl, inr, arith}
use Rattle.std.proofs.lemmas.Bool.{cases_Bool, false_from_ne_true}
use Rattle.std.specs.List.{slice_split, position, position_or_len}
use Rattle.std.proofs.lemmas.Bool.Decides.{nat_tests}
use Rattle.std.proofs.lemmas.List.{take_all, length-drop}
use Rattle.std.proofs.lemmas.List.Splits.{slice_split-cons_no, slice_split_first}
use Rattle.memchr.specs.Find.{IsFirstByte}
use Rattle.std.proofs.lemmas.List.Sums.{position_or_len_is}
use Rattle.std.proofs.lemmas.Bool.{true≢false}
use Rattle.std.proofs.lemmas.Option.{none-some}

module _ (p : ℕ → Bool) where
  no_part : (xs : List ℕ) → nat_lt (position_or_len p xs) (length xs) ≡ false → slice_split p xs ≡ xs ∷ []
  no_part [] none = refl
  no_part (x ∷ xs) none = elim (cases_Bool (p x)) [
    | inl here ↦ let some : nat_lt 0 (suc (length xs)) ≡ true = grind (arith, nat_tests) in let past : nat_lt 0 (suc (length xs))
        ≡ false = rw here at none in absurd (true≢false (sym some ∙ past))
    | inr other ↦ slice_split-cons_no p x xs other ∙ rw (no_part xs (let more = rw other at none in grind (arith, nat_tests))) refl
  ]

  -- where there is no separator, the text is one part
  pub not_cut : (xs : List ℕ) → position p xs ≡ None → slice_split p xs ≡ xs ∷ []
  not_cut xs none = elim (cases_Bool (nat_lt (position_or_len p xs) (length xs))) [
    | inl some ↦ let found = rw some at none in cc
    | inr past ↦ no_part xs past
  ]

  -- the first part ends before the separator
  pub cut_at : (xs : List ℕ) (i : ℕ) → position p xs ≡ Some i → (i < length xs)
      × (slice_split p xs ≡ take i xs ∷ slice_split p (take (length xs - (i + 1)) (drop (i + 1) xs)))
  cut_at xs i is = elim (cases_Bool (nat_lt (position_or_len p xs) (length xs))) [
    | inl some ↦
        let found : Some (position_or_len p xs) ≡ Some i = rw some at is in
        let same : position_or_len p xs ≡ i = ap (λ o. unwrap_or o 0) found in
        let within : position_or_len p xs < length xs = grind (arith, nat_tests) in
        let all : take (length xs - (i + 1)) (drop (i + 1) xs) ≡ drop (i + 1) xs =
        take_all (length xs - (i + 1)) (drop (i + 1) xs) (let n = length-drop (i + 1) xs in omega arith) in (
          omega arith,
          slice_split_first p xs 0 within ∙ ap (λ n. take n xs ∷ slice_split p (drop (n + 1) xs)) same
              ∙ ap (λ ys. take i xs ∷ slice_split p ys) (sym all),
        )
    | inr past ↦ let found : None ≡ Some i = rw past at is in absurd (none-some i found)
  ]

  -- the first byte that passes stands at its position
  pub first_byte : (xs : List ℕ) (r : Option ℕ) → IsFirstByte p xs r → r ≡ position p xs
  first_byte xs None none =
      let past : position_or_len p xs ≡ length xs =
      position_or_len_is p xs (length xs) 0 (omega arith)
      (λ k lt. false_from_ne_true (p (slice_index xs k)) (none k (omega arith) lt)) (λ lt. absurd (omega arith)) in
      let test : nat_lt (length xs) (length xs) ≡ false = grind (arith, nat_tests) in
      rw (past, test) refl
  first_byte xs (Some i) first =
      let within : i < length xs = first.0.high in
      let at : position_or_len p xs ≡ i = position_or_len_is p xs i 0 (omega arith)
      (λ k lt. false_from_ne_true (p (slice_index xs k)) (first.0.before k (omega arith) lt)) (λ lt. first.1) in
      let test : nat_lt i (length xs) ≡ true = grind (arith, nat_tests) in
      rw (at, test) refl
