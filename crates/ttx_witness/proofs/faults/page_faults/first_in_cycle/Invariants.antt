use Rattle.std.proofs.Common.{◌≡◌}
use Rattle.ttx_page.specs.Streams.{repeated}
use Rattle.ttx_page.specs.Views.{page_of}
use Rattle.ttx_witness.specs.sent.ItemTransmissions.{owner_scan, entry_owner}
use Rattle.ttx_witness.specs.faults.Comparing.{is_mine}
use Rattle.ttx_witness.specs.faults.FirstSlots.{AreFirstTaken, SentBelow}
use Rattle.ttx_witness.proofs.faults.page_faults.first_in_cycle.Given as goal

abbrev pub invariant-loop-j : goal.invariant-loop-j
invariant-loop-j l = record {
  mine : l.mine ≡ is_mine (owner_scan (page_of l.page).id (repeated l.slots) (entry_owner l.slots (page_of l.page).id) l.j);
  first : AreFirstTaken (page_of l.page) (repeated l.slots)
      (SentBelow (page_of l.page).id (repeated l.slots) (entry_owner l.slots (page_of l.page).id) l.j) l.first;
}
