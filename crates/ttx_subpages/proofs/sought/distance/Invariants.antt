use Rattle.ttx_subpages.proofs.NextHeaders.{NoneTo}
use Rattle.ttx_subpages.proofs.sought.distance.Given as goal

abbrev pub invariant-loop-step : goal.invariant-loop-step
invariant-loop-step l = record { none : NoneTo l.slots l.sought l.at l.step }
