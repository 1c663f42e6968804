use Rattle.std.proofs.Common.{ℕ, ◌<◌, pos}
use Rattle.ttx_page.specs.Streams.{repeated}
use Rattle.ttx_witness.specs.faults.Comparing.{OtherHeaderAt}
use Rattle.ttx_witness.proofs.faults.page_faults.first_other_header.Given as goal

abbrev pub invariant-loop-j : goal.invariant-loop-j
invariant-loop-j l = record { none : (i : ℕ) → i < l.j → OtherHeaderAt (repeated l.slots) l.page (pos i) → ⊥ }
