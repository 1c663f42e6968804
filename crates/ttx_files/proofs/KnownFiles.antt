-- What follows of several files whose bytes are known.
use Rattle.std.proofs.Common.{ℕ, List, [], ◌∷◌, Option, Some, None}
use Rattle.std.specs.Prelude.{IfSome}
use Rattle.ttx_files.specs.Known.{IfKnown}

-- what follows of all their bytes together
pub known : (files : List (Option (List ℕ))) (P Q : List (List ℕ) → Type 0) → ((xs : List (List ℕ)) → P xs → Q xs) → IfKnown files P → IfKnown files Q
known [] P Q f h = f [] h
known (None ∷ files) P Q f h = tt
known (Some x ∷ files) P Q f h = known files (λ xs. P (x ∷ xs)) (λ xs. Q (x ∷ xs)) (λ xs. f (x ∷ xs)) h

-- a fact about one file, and one about those after it
pub known_with : (a : Option (List ℕ)) (files : List (Option (List ℕ))) (P : List ℕ → Type 0) (Q R : List (List ℕ) → Type 0) → IfSome a P →
    IfKnown files Q → ((x : List ℕ) (xs : List (List ℕ)) → P x → Q xs → R (x ∷ xs)) → IfKnown (a ∷ files) R
known_with None files P Q R p q f = tt
known_with (Some x) files P Q R p q f = known files Q (λ xs. R (x ∷ xs)) (λ xs. f x xs p) q
