use Rattle.ttx_proof.proofs.SomeVerdict.{some_verdict_is_right}
use Rattle.ttx_proof.proofs.laws.some_verdict_is_right.Goals as goal

pub returns : goal.returns
returns c = some_verdict_is_right (record {
  verdicts = c.some_verdict_is_right.ensures;
  turn = c.each_slot_turns.ensures;
  left = c.seams_are_left.ensures;
  walk = c.walks_decide.ensures;
  join = c.joined_are_listed.ensures;
  list = c.transmissions_are_listed.ensures;
  first = c.first_period_is_listed.ensures;
})
