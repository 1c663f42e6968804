use Rattle.std.proofs.Common.{◌≡◌, None, List, map, length, get_or, sym, subst}
use Rattle.std.proofs.lemmas.Option.{slice_get_within}
use Rattle.std.proofs.lemmas.List.{length-map}
use Rattle.ttx_cycle.specs.Cycles.{slots_of}
use Rattle.ttx_page.specs.Streams.{repeated}
use Rattle.ttx_page.specs.Steady.{OtherSubpageAt}
use Rattle.ttx_page.specs.Views.{page_of}
use Rattle.ttx_witness.specs.declared.faults.subcodes.Subcodes.{Subcodes}
use Rattle.ttx_witness.specs.declared.faults.subcodes.Subcodes.TheVariants.{Unlisted}
use Rattle.ttx_witness.specs.faults.OtherSubpages.{place, AreSubcodes, AreAllSubcodes, HeadsOtherAt}
use Rattle.ttx_witness.proofs.lemmas.faults.FirstSlots.{tells_same}
use Rattle.ttx_witness.proofs.lemmas.faults.OtherSubpages.{other_is}
use Rattle.ttx_witness.proofs.faults.other_subpages.OtherSubpages.of.Goals as goal

pub returns : goal.returns
returns c = λ n p at is.
    let cycle = slots_of c.args.cycle.now in let s = repeated cycle in
    let pages = map page_of c.args.pages.now in
    let table : List Subcodes = c.in_ok-subcodes.subcodes.items in
    let same : table ≡ c.deref.result.now = sym c.deref.ensures.value in
    let here : AreSubcodes pages (length pages) p.id.mag p.id.page (get_or table (place p.id.mag p.id.page) Unlisted) =
    subst (λ k. AreAllSubcodes pages k table) (sym (length-map c.args.pages.now page_of)) c.in_ok-subcodes.ensures.subcodes p.id.mag
    p.id.page is.mag_from is.mag_to is.page in
    let there = subst (λ t. AreSubcodes pages (length pages) p.id.mag p.id.page (get_or t (place p.id.mag p.id.page) Unlisted)) same here in
    tells_same cycle (HeadsOtherAt c.deref.result.now s p.id.mag p.id.page) (OtherSubpageAt s pages p)
    (other_is pages p n at (slice_get_within pages n p at) c.deref.result.now s there)
    (get_or c.in_ok-first.first.items (place p.id.mag p.id.page) None) (c.in_ok-first.ensures.first p.id.mag p.id.page is.mag_from is.mag_to is.page)
