-- Two logs: `IsSameSoFar`.
use Rattle.std.specs.Prelude.{◌≡◌, ℕ, min, List, length, take}

-- as far as both go
abbrev pub IsSameSoFar : List ℕ → List ℕ → Type 0
IsSameSoFar a b = take (min (length a) (length b)) a ≡ take (min (length a) (length b)) b
