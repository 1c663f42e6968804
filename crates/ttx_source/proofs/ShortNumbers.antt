-- Numbers of one or two digits. Each key of a row is one.
use Rattle.std.proofs.Common.{◌≡◌, ◌∙◌, ◌<◌, ℕ, List, [], length, nat_le, true, false, Option, Some, None, ap, arith, refl, sym, subst, get_or, if◌then◌else◌, is_some, inl, inr}
use Rattle.std.specs.List.{position}
use Rattle.std.specs.Str.{bytes_eq}
use Rattle.std.proofs.lemmas.Bool.{agree_below, agree_below_at, both_ways, cases_Bool}
use Rattle.std.proofs.lemmas.List.Quantifiers.{position-Some}
use Rattle.std.proofs.lemmas.Slice.Eq.{bytes_eq-Decides}
use Rattle.ttx_digits.specs.Digits.{number_in_word}
use Rattle.ttx_source.specs.Keys.{row_keys, is_row_key}
use Rattle.ttx_source.proofs.RowKeys.{no_key}
use Rattle.ttx_source.proofs.RowValues.{is_some-position, row_count}

abbrev pub number_if_short : List ℕ → Option ℕ
number_if_short word = if nat_le (length word) 2 then number_in_word word else None

few_digits : agree_below (λ r. nat_le (length (get_or row_keys r [])) 2) (λ _. true) 24 ≡ true
unfolding row_keys
few_digits = refl

pub short_is_number : (word : List ℕ) (n : ℕ) → number_if_short word ≡ Some n → number_in_word word ≡ Some n
short_is_number word n h = elim (cases_Bool (nat_le (length word) 2)) [
  | inl short ↦ sym (rw short refl) ∙ h
  | inr long ↦
      let none : number_if_short word ≡ None = rw long refl in
      absurd (both_ways _ (ap is_some none) (ap is_some h))
]

long_is_no_key : (key : List ℕ) → nat_le (length key) 2 ≡ false → is_row_key key ≡ false
long_is_no_key key long =
    elim (cases_Bool (is_row_key key)) [
      | inl is ↦ absurd (none (position (λ name. bytes_eq name key) row_keys) refl (is_some-position (λ name. bytes_eq name key) row_keys ∙ is))
      | inr fails ↦ fails
    ]
  where
    none : (place : Option ℕ) → place ≡ position (λ name. bytes_eq name key) row_keys → is_some place ≡ true → ⊥
    none None at is = both_ways _ refl is
    none (Some i) at is =
        let (inside, passes, first) = position-Some (λ name. bytes_eq name key) row_keys i [] (sym at) in
        let there : i < 24 = subst (λ n. i < n) row_count inside in
        let same : get_or row_keys i [] ≡ key = (bytes_eq-Decides (get_or row_keys i []) key).0 passes in
        let few : nat_le (length (get_or row_keys i [])) 2 ≡ true =
        agree_below_at (λ r. nat_le (length (get_or row_keys r [])) 2) (λ _. true) 24 i few_digits there in
        both_ways _ (ap (λ k. nat_le (length k) 2) same ∙ long) few

-- a word that is no number of one or two digits is not the key of a row
pub no_short_key : (key : List ℕ) → number_if_short key ≡ None → is_row_key key ≡ false
no_short_key key h = elim (cases_Bool (nat_le (length key) 2)) [
  | inl short ↦ no_key key None (sym (rw short refl) ∙ h) (λ r within same. omega (arith, same))
  | inr long ↦ long_is_no_key key long
]
