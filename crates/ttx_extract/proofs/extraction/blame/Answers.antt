use Rattle.std.proofs.Common.{◌≡◌, ℕ, Some, slice_get, subst, sym}
use Rattle.ttx_cycle.specs.Cycles.{slots_of}
use Rattle.ttx_page.specs.Pages.{Page}
use Rattle.ttx_page.specs.Steady.{Steady}
use Rattle.ttx_page.specs.Streams.{repeated}
use Rattle.ttx_witness.specs.sent.AllSent.{AreAllSent}
use Rattle.ttx_witness.specs.faults.OtherSubpages.{AreOtherSubpages}
use Rattle.ttx_extract.specs.FirstReasons.{TellsPage}
use Rattle.ttx_extract.proofs.extraction.blame.Goals as goal

pub returns-in-Some : goal.returns-in-Some
returns-in-Some c = λ lines sent others is.
    let slots = slots_of c.args.cycle.now in
    let same = sym c.pages.ensures.value in
    let all_sent = subst (λ ps. AreAllSent slots ps lines c.args.collected.now) same sent in
    let told = c.in-Some.ensures lines all_sent (subst (λ ps. AreOtherSubpages slots ps c.args.others.now) same others) in
    c.why.ensures c.args.service.now lines sent is (subst (λ ps. TellsPage slots ps c.in-Some.told) c.pages.ensures.value told)

pub returns-in-None : goal.returns-in-None
returns-in-None c = λ lines sent others is.
    let slots = slots_of c.args.cycle.now in
    let same = sym c.pages.ensures.value in
    let all_sent = subst (λ ps. AreAllSent slots ps lines c.args.collected.now) same sent in
    subst (λ ps. (n : ℕ) (p : Page) → slice_get ps n ≡ Some p → Steady (repeated slots) ps p) c.pages.ensures.value
    (c.in-None.ensures lines all_sent (subst (λ ps. AreOtherSubpages slots ps c.args.others.now) same others))
