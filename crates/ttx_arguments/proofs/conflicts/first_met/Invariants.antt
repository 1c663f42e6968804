use Rattle.std.proofs.Common.{◌≡◌, drop}
use Rattle.clap.specs.Words.{rows_of, found_of}
use Rattle.ttx_arguments.specs.Conflicts.{conflict_in}
use Rattle.ttx_arguments.proofs.conflicts.first_met.Given as goal

abbrev pub invariant-loop-conflict : goal.invariant-loop-conflict
invariant-loop-conflict l =
    conflict_in l.conflicts (rows_of (found_of l.values)) ≡ conflict_in (drop l.conflict-index l.conflicts) (rows_of (found_of l.values))
