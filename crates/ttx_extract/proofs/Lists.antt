-- What is true of each element of a list, place by place.
use Rattle.std.proofs.Common.{◌≡◌, ℕ, ◌+◌, ◌<◌, ◌≤◌, List, length, map, slice_get, Option, Some, None, refl, sym, ◌∙◌, subst, inl, inr, arith}
use Rattle.std.specs.Option.{option_map}
use Rattle.std.proofs.lemmas.Bool.{cases_lt}
use Rattle.std.proofs.lemmas.Option.{slice_get_within, slice_get-map}

some_value : {B : Type 0} (a b : B) → Some a ≡ Some b → a ≡ b
some_value a b h = cc

pub mapped : {A B : Type 0} (f : A → B) (o : Option A) (y : B) → option_map f o ≡ Some y → (x : A) × (o ≡ Some x) × (f x ≡ y)
mapped f None y e = absurd (let h : None ≡ Some y = e in cc)
mapped f (Some x) y e = (x, refl, some_value (f x) y e)

-- the place of an element of a list that a function made
pub made_at : {A B : Type 0} (f : A → B) (xs : List A) (n : ℕ) (y : B) → slice_get (map f xs) n ≡ Some y → (x : A) × (slice_get xs n ≡ Some x) × (f x ≡ y)
made_at f xs n y at = mapped f (slice_get xs n) y (sym (slice_get-map f xs n) ∙ at)

module _ {A : Type 0} (P : A → Type 0) (xs : List A) where
  abbrev pub Before : ℕ → Type 0
  Before i = (n : ℕ) (x : A) → n < i → slice_get xs n ≡ Some x → P x

  pub one_more : (i : ℕ) → Before i → ((x : A) → slice_get xs i ≡ Some x → P x) → Before (i + 1)
  one_more i earlier here = λ n x lt at. elim (cases_lt n i) as (λ _. P x) [
    | inl less ↦ earlier n x less at
    | inr ge ↦ let same : n ≡ i = omega arith in here x (subst (λ m. slice_get xs m ≡ Some x) same at)
  ]

  pub all : (i : ℕ) → length xs ≤ i → Before i → (n : ℕ) (x : A) → slice_get xs n ≡ Some x → P x
  all i past earlier n x at = earlier n x (let lt = slice_get_within xs n x at in omega arith) at
