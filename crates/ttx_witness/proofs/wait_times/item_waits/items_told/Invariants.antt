use Rattle.ttx_witness.specs.wait_times.SurveyedWaits.{AreItemsToldIn}
use Rattle.ttx_witness.proofs.wait_times.item_waits.items_told.Given as goal

abbrev pub invariant-loop-number : goal.invariant-loop-number
invariant-loop-number l = record { told : AreItemsToldIn l.surveyed l.number l.told.items }
