-- An element of a list.
--
--   HoldsAt                 the element at an index of a list exists and has a property
use Rattle.std.specs.Prelude.{◌≡◌, ℕ, List, slice_get, Some}

pub record HoldsAt (A : Type 0) (xs : List A) (n : ℕ) (P : A → Type 0) : Type 0 where
  pub value : A
  pub here : slice_get xs n ≡ Some value
  pub is : P value
