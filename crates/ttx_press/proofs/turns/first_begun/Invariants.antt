use Rattle.std.proofs.Common.{◌≡◌, drop}
use Rattle.ttx_press.specs.Turns.{first_begun}
use Rattle.ttx_press.proofs.turns.first_begun.Given as goal

abbrev pub invariant-loop-slot : goal.invariant-loop-slot
invariant-loop-slot l = first_begun (drop l.slot-index l.slot-items) ≡ first_begun l.slot-items
