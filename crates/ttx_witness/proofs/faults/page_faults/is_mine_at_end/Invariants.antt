use Rattle.std.proofs.Common.{◌≡◌, None}
use Rattle.ttx_page.specs.Streams.{repeated}
use Rattle.ttx_witness.specs.sent.ItemTransmissions.{owner_scan}
use Rattle.ttx_witness.specs.faults.Comparing.{is_mine}
use Rattle.ttx_witness.proofs.faults.page_faults.is_mine_at_end.Given as goal

abbrev pub invariant-loop-j : goal.invariant-loop-j
invariant-loop-j l = record { mine : l.mine ≡ is_mine (owner_scan l.page (repeated l.slots) None l.j) }
