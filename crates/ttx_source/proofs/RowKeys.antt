-- The keys of rows as numbers: each is the word of a number from 1 to 24, and no other word is read as one of these.
use Rattle.std.proofs.Common.{◌≡◌, ◌∙◌, ◌<◌, ◌≤◌, ◌+◌, ◌-◌, ℕ, List, [], true, false, Option, Some, None}
use Rattle.std.proofs.Common.{ap, refl, sym, get_or, arith, is_some, inl, inr, subst}
use Rattle.std.specs.Fmt.{decimal}
use Rattle.std.specs.List.{position, range_with_len}
use Rattle.std.specs.Str.{bytes_eq}
use Rattle.std.proofs.lemmas.Bool.{both_ways, cases_Bool}
use Rattle.std.proofs.lemmas.List.{get_or-map}
use Rattle.std.proofs.lemmas.List.Folds.{list_any_at}
use Rattle.std.proofs.lemmas.List.FromFn.{get_or-range_with_len}
use Rattle.std.proofs.lemmas.List.Quantifiers.{position-Some}
use Rattle.std.proofs.lemmas.Slice.Eq.{bytes_eq-Decides}
use Rattle.ttx_digits.specs.Digits.{number_in_word}
use Rattle.ttx_digits.specs.Laws.{ReadNumbersAreWritten}
use Rattle.ttx_source.specs.Keys.{row_keys, is_row_key}
use Rattle.ttx_source.proofs.RowValues.{is_some-position, row_count, row_here}

reads_as : (r : ℕ) → r < 24 → number_in_word (get_or row_keys r []) ≡ Some (1 + r)
unfolding row_keys
reads_as r within =
    sym (get_or-map number_in_word row_keys r [] None within)
    ∙ get_or-map Some (range_with_len 1 24) r 0 None within
    ∙ ap Some (get_or-range_with_len 1 24 r 0 within)

-- the key that is read as a number from 1 to 24 stands at the place of that row
pub key_at : ReadNumbersAreWritten → (key : List ℕ) (n : ℕ) → number_in_word key ≡ Some n → 1 ≤ n → n ≤ 24 → get_or row_keys (n - 1) [] ≡ key
key_at law key n read low high =
    let same : 1 + (n - 1) ≡ n = omega (arith, low) in
    law _ (1 + (n - 1)) (reads_as (n - 1) (omega (arith, low, high))) ∙ ap decimal same ∙ sym (law key n read)

pub is_key : ReadNumbersAreWritten → (key : List ℕ) (n : ℕ) → number_in_word key ≡ Some n → 1 ≤ n → n ≤ 24 → is_row_key key ≡ true
is_key law key n read low high =
    let there : n - 1 < 24 = omega (arith, low, high) in
    list_any_at (λ name. bytes_eq name key) row_keys (n - 1) [] (row_here (n - 1) there)
    ((bytes_eq-Decides (get_or row_keys (n - 1) []) key).1 (key_at law key n read low high))

abbrev pub number_of : Option ℕ → ℕ
number_of None = 0
number_of (Some n) = n

-- a key that is not read as a number from 1 to 24 is not the key of a row
pub no_key : (key : List ℕ) (n : Option ℕ) → number_in_word key ≡ n → ((r : ℕ) → r < 24 → number_of n ≡ 1 + r → ⊥) → is_row_key key ≡ false
no_key key n read other =
    elim (cases_Bool (is_row_key key)) [
      | inl is ↦ absurd (none (position (λ name. bytes_eq name key) row_keys) refl (is_some-position (λ name. bytes_eq name key) row_keys ∙ is))
      | inr fails ↦ fails
    ]
  where
    none : (place : Option ℕ) → place ≡ position (λ name. bytes_eq name key) row_keys → is_some place ≡ true → ⊥
    none None at is = both_ways _ refl is
    none (Some i) at is =
        let (inside, passes, first) = position-Some (λ name. bytes_eq name key) row_keys i [] (sym at) in
        let there : i < 24 = subst (λ n. i < n) row_count inside in
        let same : get_or row_keys i [] ≡ key = (bytes_eq-Decides (get_or row_keys i []) key).0 passes in
        other i there (ap number_of (sym read ∙ ap number_in_word (sym same) ∙ reads_as i there))
