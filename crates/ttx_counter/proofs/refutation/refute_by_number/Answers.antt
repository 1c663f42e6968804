use Rattle.std.proofs.Common.{subst}
use Rattle.ttx_page.specs.Steady.{OtherSubpageAt}
use Rattle.ttx_page.specs.Streams.{repeated}
use Rattle.ttx_witness.specs.Coverage.{limit}
use Rattle.ttx_witness.specs.faults.Faults.{TellsFirst}
use Rattle.ttx_counter.specs.Claims.{claimed_slots, claimed_pages, claimed_numbers, own_page}
use Rattle.ttx_counter.proofs.ByNumber.{right_by_number}
use Rattle.ttx_counter.proofs.refutation.refute_by_number.Goals as goal

pub returns-in-None : goal.returns-in-None
returns-in-None c =
    let p = c.args.page.now in
    let slots = claimed_slots p.claim.now in
    let pages = claimed_pages p.claim.now in
    let w = claimed_numbers p.claim.now in
    right_by_number slots pages (own_page p) p.index w.lines (limit w) p.at
    (subst (TellsFirst slots (OtherSubpageAt (repeated slots) pages (own_page p))) c.in-None.is
    (c.first.ensures slots pages p.index (own_page p) c.requires.prepared.others p.at c.id.ensures))
    c.requires.exactly
