-- A test that says yes, and one that says no.
use Rattle.std.proofs.Common.{true, false, refl}
use Rattle.std.proofs.lemmas.Bool.{both_ways}
use Rattle.std.specs.Prelude.{◌↔◌, IsTrue}

pub says_yes : {P : Type 0} → P → IsTrue true ↔ P
says_yes p = ((λ t. p), (λ q. refl))

pub says_no : {P : Type 0} → (P → ⊥) → IsTrue false ↔ P
says_no not = ((λ t. absurd (both_ways false refl t)), (λ p. absurd (not p)))
