use Rattle.std.proofs.Common.{◌≡◌, None, replicate}
use Rattle.ttx_witness.proofs.faults.other_subpages.none_told.Given as goal

abbrev pub invariant-loop-i : goal.invariant-loop-i
invariant-loop-i l = record { none : l.first.items ≡ replicate l.i None }
