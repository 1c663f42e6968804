-- Positions in lists that are seen through a function.
use Rattle.std.proofs.Common.{◌≡◌, ◌∙◌, ℕ, ◌+◌, Bool, List, [], ◌∷◌, map, refl, sym, inl, inr}
use Rattle.std.specs.List.{position, position_from}
use Rattle.std.proofs.lemmas.Bool.{cases_Bool}
use Rattle.std.proofs.lemmas.Iterator.Adapters.{position_from-zero}

position_from-map : {A B : Type 0} (f : A → B) (p : B → Bool) (n : ℕ) (xs : List A) → position_from (λ x. p (f x)) n xs ≡ position_from p n (map f xs)
position_from-map f p n [] = refl
position_from-map f p n (x ∷ xs) =
    elim (cases_Bool (p (f x))) [
      | inl passes ↦ rw passes refl
      | inr fails ↦ rw fails (position_from-map f p (n + 1) xs)
    ]

pub position-map : {A B : Type 0} (f : A → B) (p : B → Bool) (xs : List A) → position (λ x. p (f x)) xs ≡ position p (map f xs)
position-map f p xs = position_from-zero (λ x. p (f x)) xs ∙ position_from-map f p 0 xs ∙ sym (position_from-zero p (map f xs))
