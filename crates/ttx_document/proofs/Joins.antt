-- What is appended part after part.
use Rattle.std.proofs.Common.{◌≡◌, ◌∙◌, ◌++◌, ℕ, List, Result, Ok, Err, OnOk, ap}
use Rattle.std.proofs.lemmas.List.{append_assoc}

-- one more part
pub more : (old mid new a b : List ℕ) → mid ≡ old ++ a → new ≡ mid ++ b → new ≡ old ++ (a ++ b)
more old mid new a b e f = f ∙ ap (λ z. z ++ b) e ∙ append_assoc old a b

-- the last part, if it is appended
pub joined : {A E : Type 0} (r : Result A E) (old mid new a b : List ℕ) → mid ≡ old ++ a → OnOk r (new ≡ mid ++ b) →
    OnOk r (new ≡ old ++ (a ++ b))
joined (Ok x) old mid new a b e f = more old mid new a b e f
joined (Err x) old mid new a b e f = tt
