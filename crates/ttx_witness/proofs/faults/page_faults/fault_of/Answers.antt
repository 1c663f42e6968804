use Rattle.std.proofs.Common.{sym, subst}
use Rattle.ttx_cycle.specs.Cycles.{slots_of, slots_of-IsCycle}
use Rattle.ttx_page.specs.Views.{page_of}
use Rattle.ttx_witness.specs.faults.Faults.{AreFirst}
use Rattle.ttx_witness.specs.faults.FirstSlots.{TakenBelow}
use Rattle.ttx_witness.proofs.lemmas.faults.FirstSlots.{first_slots}
use Rattle.ttx_witness.proofs.lemmas.sent.ItemPlaces.{item_small}
use Rattle.ttx_witness.proofs.faults.page_faults.fault_of.Goals as goal

pub returns : goal.returns
returns c = λ pages lines sent at other.
    let cycle = slots_of c.args.cycle.now in let p = page_of c.args.page.now in
    c.least_fault.ensures cycle pages p c.id.ensures
    (subst (AreFirst cycle pages p) (sym c.with_other_subpage.ensures)
    (first_slots cycle (slots_of-IsCycle c.args.cycle.now).some p (TakenBelow cycle p.id 26)
    (λ item it j. ((λ t. (t.1, t.2)), (λ t. (item_small item it, t.0, t.1)))) pages c.args.other_subpage other c.first_collected-first.result
    (c.first_collected-first.ensures pages lines sent at)))
