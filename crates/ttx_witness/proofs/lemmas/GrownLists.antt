-- A list that grows by one.
use Rattle.std.proofs.Common.{◌≡◌, ℕ, zero, suc, ◌<◌, List, [], ◌∷◌, ◌++◌, length, slice_get, Some, refl, arith}

pub before_here : {A : Type 0} (xs ys : List A) (n : ℕ) → n < length xs → slice_get (xs ++ ys) n ≡ slice_get xs n
before_here [] ys n lt = absurd (omega arith)
before_here (x ∷ xs) ys zero lt = refl
before_here (x ∷ xs) ys (suc n) lt = before_here xs ys n (omega arith)

pub last_here : {A : Type 0} (xs : List A) (v : A) → slice_get (xs ++ v ∷ []) (length xs) ≡ Some v
last_here [] v = refl
last_here (x ∷ xs) v = last_here xs v
