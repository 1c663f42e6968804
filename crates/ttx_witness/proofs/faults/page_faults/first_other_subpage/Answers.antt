use Rattle.std.proofs.Common.{map, ap, ◌∙◌, subst}
use Rattle.std.proofs.lemmas.Bool.{both_ways}
use Rattle.ttx_cycle.specs.Cycles.{slots_of}
use Rattle.ttx_page.specs.Streams.{repeated}
use Rattle.ttx_page.specs.Steady.{OtherSubpageAt}
use Rattle.ttx_page.specs.Views.{page_of}
use Rattle.ttx_witness.specs.faults.Comparing.{OtherHeaderAt}
use Rattle.ttx_witness.specs.faults.Faults.{TellsFirst}
use Rattle.ttx_witness.proofs.lemmas.faults.FirstSlots.{tells_same, placed, page_here}
use Rattle.ttx_witness.proofs.faults.page_faults.first_other_subpage.Goals as goal

pub returns-then-fits : goal.returns-then-fits
returns-then-fits c = λ p at.
    let cycle = slots_of c.args.cycle.now in let s = repeated cycle in let pages = map page_of c.args.pages.now in
    let here = page_here c.args.pages.now c.args.index c.index-pages-index.result c.requires c.index-pages-index.is in
    let id = c.id-id.ensures ∙ ap (λ x. x.id) (placed _ (page_of c.index-pages-index.result) p here at) in
    let alone = ((c.fits.ensures p at).0 c.if-fits.true).2 in
    tells_same cycle (OtherHeaderAt s p.id) (OtherSubpageAt s pages p)
    (λ j. ((λ h. record { alone = alone; number = h.number; other = h.other }), (λ h. record { number = h.number; other = h.other })))
    c.first_other_header.result
    (subst (λ x. TellsFirst cycle (OtherHeaderAt s x) c.first_other_header.result) id c.first_other_header.ensures)

pub returns-else-fits : goal.returns-else-fits
returns-else-fits c = λ p at j h.
    let here = page_here c.args.pages.now c.args.index c.index-pages-index.result c.requires c.index-pages-index.is in
    let id = c.id-id.ensures ∙ ap (λ x. x.id) (placed _ (page_of c.index-pages-index.result) p here at) in
    both_ways c.fits.result c.if-fits.false
    ((c.fits.ensures p at).1 (c.mag.ensures.value ∙ ap (λ x. x.mag) id, c.page.ensures ∙ ap (λ x. x.page) id, h.alone))
