use Rattle.ttx_counter.proofs.SeenIsCovered.{starved_has_counter}
use Rattle.ttx_counter.proofs.completeness.starved_has_counter.Goals as goal

pub returns : goal.returns
returns c =
    starved_has_counter (record {
      turn = c.each_slot_turns.ensures;
      own = c.steady_sends_its_own.ensures;
      stays = c.starved_stays_wrong.ensures;
      unseen = c.starved_is_unseen.ensures;
    })
