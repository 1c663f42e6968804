use Rattle.std.proofs.Common.{◌≡◌, ◌++◌, drop}
use Rattle.ttx_press.specs.Turns.{places}
use Rattle.ttx_press.proofs.turns.push_places.Given as goal

abbrev pub invariant-loop-at : goal.invariant-loop-at
invariant-loop-at l =
    l.places.items ++ places l.first l.same l.at (drop l.at l.slots) ≡ l.initial.places.items ++ places l.first l.same 1 (drop 1 l.slots)
