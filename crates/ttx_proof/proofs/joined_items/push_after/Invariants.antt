use Rattle.std.proofs.Common.{◌≡◌, ◌++◌}
use Rattle.ttx_proof.specs.Joining.{periods_after}
use Rattle.ttx_proof.proofs.joined_items.push_after.Given as goal

abbrev pub invariant-loop-gone : goal.invariant-loop-gone
invariant-loop-gone l = record { items : l.list.items ≡ l.initial.list.items ++ periods_after l.period l.gone l.news }
