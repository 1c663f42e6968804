use Rattle.std.proofs.Common.{◌∙◌, map, ap, length, sym, subst}
use Rattle.ttx_cycle.specs.Cycles.{slots_of, slots_of-IsCycle}
use Rattle.ttx_page.specs.Streams.{repeated}
use Rattle.ttx_page.specs.Views.{page_of}
use Rattle.ttx_witness.specs.sent.ItemTransmissions.{entry_owner}
use Rattle.ttx_witness.specs.faults.Faults.{AreFirst}
use Rattle.ttx_witness.specs.faults.FirstSlots.{SentBelow}
use Rattle.ttx_witness.proofs.lemmas.faults.FirstSlots.{placed, page_here, first_slots}
use Rattle.ttx_witness.proofs.lemmas.faults.OverOnePeriod.{all_sent}
use Rattle.ttx_witness.proofs.faults.page_faults.page_fault.Goals as goal

pub returns : goal.returns
returns c = λ p at.
    let cycle = slots_of c.args.cycle.now in let pages = map page_of c.args.pages.now in
    let some = (slots_of-IsCycle c.args.cycle.now).some in
    let q = page_of c.index-pages-index.result in
    let here = page_here c.args.pages.now c.args.index c.index-pages-index.result c.requires c.index-pages-index.is in
    let same = placed _ q p here at in
    c.least_fault.ensures cycle pages p (c.id-2.ensures ∙ ap (λ x. x.id) same)
    (subst (λ x. AreFirst cycle pages x c.with_other_subpage.result) same
    (subst (AreFirst cycle pages q) (sym c.with_other_subpage.ensures)
    (first_slots cycle some q (SentBelow q.id (repeated cycle) (entry_owner cycle q.id) (length cycle)) (λ item it. all_sent cycle some q.id item) pages
    c.first_other_subpage-other_subpage.result (c.first_other_subpage-other_subpage.ensures q here) c.first_in_cycle-first.result
    c.first_in_cycle-first.ensures)))
