-- Facts about the bytes of several files.
--
--   IfKnown         what is true of the bytes of these files, where the bytes of each are known
--   first, second, third, fourth    the files of a list, by their order
use Rattle.std.specs.Prelude.{ℕ, List, [], ◌∷◌, Option, IfSome}

abbrev pub IfKnown : List (Option (List ℕ)) → (List (List ℕ) → Type 0) → Type 0
IfKnown [] P = P []
IfKnown (a ∷ files) P = IfSome a (λ x. IfKnown files (λ xs. P (x ∷ xs)))

abbrev pub first : List (List ℕ) → List ℕ
first [] = []
first (x ∷ xs) = x

abbrev pub rest : List (List ℕ) → List (List ℕ)
rest [] = []
rest (x ∷ xs) = xs

abbrev pub second : List (List ℕ) → List ℕ
second xs = first (rest xs)

abbrev pub third : List (List ℕ) → List ℕ
third xs = first (rest (rest xs))

abbrev pub fourth : List (List ℕ) → List ℕ
fourth xs = first (rest (rest (rest xs)))
