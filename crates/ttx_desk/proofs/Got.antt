-- What is got at an index of a mapped list.
use Rattle.std.proofs.Common.{◌≡◌, ℕ, zero, suc, ◌<◌, List, [], ◌∷◌, length, get_or, map, slice_get, Some, refl, arith}

module _ {A B : Type 0} (f : A → B) where
  pub got-within : (xs : List A) (k : ℕ) (y : B) → slice_get (map f xs) k ≡ Some y → k < length xs
  got-within [] k y e = cc
  got-within (x ∷ xs) zero y e = omega arith
  got-within (x ∷ xs) (suc k) y e = let rest = got-within xs k y e in omega arith

  pub got-some : (xs : List A) (k : ℕ) → k < length xs → (x : A) × (slice_get (map f xs) k ≡ Some (f x))
  got-some [] k inside = absurd (omega arith)
  got-some (x ∷ xs) zero inside = (x, refl)
  got-some (x ∷ xs) (suc k) inside = got-some xs k (omega arith)

  same-some : (x y : B) → Some x ≡ Some y → x ≡ y
  same-some x y e = cc

  pub got-here : (xs : List A) (k : ℕ) (d : A) (y : B) → slice_get (map f xs) k ≡ Some y → f (get_or xs k d) ≡ y
  got-here [] k d y e = cc
  got-here (x ∷ xs) zero d y e = same-some (f x) y e
  got-here (x ∷ xs) (suc k) d y e = got-here xs k d y e
