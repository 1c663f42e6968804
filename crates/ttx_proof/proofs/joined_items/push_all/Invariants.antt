use Rattle.std.proofs.Common.{◌≡◌, ◌++◌, take}
use Rattle.ttx_proof.proofs.joined_items.push_all.Given as goal

abbrev pub invariant-loop-i : goal.invariant-loop-i
invariant-loop-i l = record { items : l.list.items ≡ l.initial.list.items ++ take l.i l.sent }
