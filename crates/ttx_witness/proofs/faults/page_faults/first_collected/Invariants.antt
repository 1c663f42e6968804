use Rattle.std.proofs.Common.{◌≡◌, ℕ, List, slice_get, Some}
use Rattle.ttx_cycle.specs.Cycles.{slots_of}
use Rattle.ttx_page.specs.Pages.{Page}
use Rattle.ttx_page.specs.Streams.{repeated}
use Rattle.ttx_page.specs.Views.{page_of}
use Rattle.ttx_witness.specs.sent.AllSent.{AreAllSent}
use Rattle.ttx_witness.specs.faults.FirstSlots.{AreFirstTaken, TakenBelow}
use Rattle.ttx_witness.proofs.faults.page_faults.first_collected.Given as goal

abbrev pub invariant-loop-number : goal.invariant-loop-number
invariant-loop-number l = record {
  first : (pages : List Page) (lines : ℕ) → AreAllSent (slots_of l.cycle) pages lines l.collected →
      slice_get pages l.index ≡ Some (page_of l.page) →
      AreFirstTaken (page_of l.page) (repeated (slots_of l.cycle)) (TakenBelow (slots_of l.cycle) (page_of l.page).id l.number) l.first;
}
