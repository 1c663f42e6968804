use Rattle.std.proofs.Common.{ℕ, map}
use Rattle.ttx_cycle.specs.Cycles.{slots_of}
use Rattle.ttx_page.specs.Streams.{repeated}
use Rattle.ttx_page.specs.Steady.{Steady}
use Rattle.ttx_page.specs.Views.{page_of}
use Rattle.ttx_witness.specs.sent.AllSent.{AreAllSent}
use Rattle.ttx_witness.specs.faults.OtherSubpages.{AreOtherSubpages}
use Rattle.ttx_extract.proofs.Lists.{Before}
use Rattle.ttx_extract.proofs.unlike_pages.first_reason.Given as goal

abbrev pub invariant-loop-index : goal.invariant-loop-index
invariant-loop-index l = (lines : ℕ) → AreAllSent (slots_of l.cycle) (map page_of l.pages) lines l.collected →
    AreOtherSubpages (slots_of l.cycle) (map page_of l.pages) l.others →
    Before (Steady (repeated (slots_of l.cycle)) (map page_of l.pages)) (map page_of l.pages) l.index
