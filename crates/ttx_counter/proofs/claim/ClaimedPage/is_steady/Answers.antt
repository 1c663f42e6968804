use Rattle.std.proofs.Common.{◌≡◌, ◌↔◌, Bool, true, false, not, Option, Some, None, refl, sym, ap}
use Rattle.std.specs.Prelude.{is_some}
use Rattle.ttx_witness.specs.declared.faults.reason.Reason.{Reason}
use Rattle.ttx_counter.specs.Claims.{claimed_slots, claimed_pages, own_page}
use Rattle.ttx_counter.proofs.claim.ClaimedPage.is_steady.Goals as goal

none_told : (o : Option Reason) (b : Bool) → is_some o ≡ not b → (b ≡ true) ↔ (o ≡ None)
none_told None true e = (λ _. refl, λ _. refl)
none_told None false e = let h : false ≡ true = e in cc
none_told (Some r) true e = let h : true ≡ false = e in cc
none_told (Some r) false e = (λ f. (let h : false ≡ true = f in cc), (λ n. let h : true ≡ false = ap (λ (x : Option Reason). is_some x) n in cc))

pub returns : goal.returns
returns c =
    let p = c.args.self.now in
    let law = c.steady_has_no_fault.ensures (claimed_slots p.claim.now) (claimed_pages p.claim.now) (own_page p) c.fault.result c.fault.ensures in
    let none = none_told c.fault.result c.is_none.result c.is_none.ensures in
    ((λ e. law.0 (none.0 e)), (λ steady. none.1 (law.1 steady)))
