use Rattle.std.proofs.Common.{◌≡◌, ◌++◌, map, take}
use Rattle.ttx_proof.specs.Joining.{shifted}
use Rattle.ttx_proof.proofs.joined_items.push_shifted.Given as goal

abbrev pub invariant-loop-i : goal.invariant-loop-i
invariant-loop-i l = record { items : l.list.items ≡ l.initial.list.items ++ map (shifted l.by) (take l.i l.sent) }
