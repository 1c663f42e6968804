use Rattle.ttx_certify.proofs.SomeVerdict.{some_verdict_is_right}
use Rattle.ttx_certify.proofs.verdict_laws.some_verdict_is_right.Goals as goal

pub returns : goal.returns
returns c = some_verdict_is_right (record {
  cover = record { steady = c.steady_has_no_fault.ensures; decided = c.coverage_is_decided.ensures; judged = c.items_are_judged.ensures };
  faults = record { turn = c.each_slot_turns.ensures; move = c.streams_move.ensures; list = c.transmissions_are_listed.ensures };
  headers = c.headers_are_judged.ensures;
})
