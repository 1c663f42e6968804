use Rattle.ttx_witness.specs.wait_times.SurveyedWaits.{IsLongestIn}
use Rattle.ttx_witness.proofs.wait_times.page_waits.longest_item.Given as goal

abbrev pub invariant-loop-number : goal.invariant-loop-number
invariant-loop-number l = record { longest : IsLongestIn l.surveyed l.number l.fields l.longest }
