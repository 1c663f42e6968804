use Rattle.std.proofs.Common.{sym, subst}
use Rattle.ttx_page.specs.Views.{page_of}
use Rattle.ttx_witness.specs.faults.Comparing.{is_number_of}
use Rattle.ttx_witness.specs.faults.FirstSlots.{IsAfter}
use Rattle.ttx_witness.proofs.faults.page_faults.note_sent.Goals as goal

pub returns-in-Some : goal.returns-in-Some
returns-in-Some c = subst (λ o. IsAfter (page_of c.args.page.now) (λ item. is_number_of item o) c.args.slot.now c.args.at c.args.first.now c.note_item.new.first)
    (sym c.in-Some.is) c.note_item.ensures
