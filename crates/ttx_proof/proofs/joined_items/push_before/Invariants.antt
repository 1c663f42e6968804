use Rattle.std.proofs.Common.{◌≡◌, ◌++◌, ◌-◌}
use Rattle.ttx_proof.specs.Joining.{periods_before}
use Rattle.ttx_proof.proofs.joined_items.push_before.Given as goal

abbrev pub invariant-loop-back : goal.invariant-loop-back
invariant-loop-back l = record {
  items : l.list.items ++ periods_before l.period (l.repeat - l.back) l.olds ≡ l.initial.list.items
      ++ periods_before l.period l.repeat l.olds;
}
