-- Objects are the same where their members are.
--
--   told                    a line is added of some members, so of others that are the same
--   both                    lists that begin and go on alike are the same
use Rattle.std.proofs.Common.{◌≡◌, ◌∙◌, ◌++◌, ◌∷◌, ℕ, List, Result, OnOk, ap, subst}
use Rattle.ttx_json.specs.Objects.{Member}
use Rattle.ttx_records.specs.Names.{line}

pub told : {A E : Type 0} (r : Result A E) (old new : List ℕ) {a b : List Member} → a ≡ b → OnOk r (new ≡ old ++ line a) → OnOk r (new ≡ old ++ line b)
told r old new same h = subst (λ members. OnOk r (new ≡ old ++ line members)) same h

pub both : {a b : Member} {l m : List Member} → a ≡ b → l ≡ m → (a ∷ l) ≡ (b ∷ m)
both {a} {b} {l} {m} p q = ap (λ (x : Member). x ∷ l) p ∙ ap (λ (xs : List Member). b ∷ xs) q
