use Rattle.std.proofs.Common.{◌≡◌, ℕ, map, take}
use Rattle.ttx_cycle.specs.Cycles.{slots_of}
use Rattle.ttx_page.specs.Views.{page_of, ids_of}
use Rattle.ttx_witness.specs.sent.AllSent.{AreAllSent}
use Rattle.ttx_extract.specs.Drafts.{authored_of, said_page}
use Rattle.ttx_extract.proofs.gathered.sent_pages.Given as goal

abbrev pub invariant-loop-index : goal.invariant-loop-index
invariant-loop-index l = (lines : ℕ) → AreAllSent (slots_of l.cycle) (map page_of l.named) lines l.collected →
    map authored_of l.pages.items ≡ map (said_page (slots_of l.cycle) lines l.serial) (take l.index (ids_of l.named))
