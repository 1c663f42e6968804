use Rattle.ttx_counter.proofs.StarvedCounterRuns.{starving_is_counter_run}
use Rattle.ttx_counter.proofs.completeness.starving_is_counter_run.Goals as goal

pub returns : goal.returns
returns c =
    starving_is_counter_run (record {
      turn = c.each_slot_turns.ensures;
      own = c.steady_sends_its_own.ensures;
      stays = c.starved_stays_wrong.ensures;
      unseen = c.starved_is_unseen.ensures;
    }) c.starved_is_scripted.ensures
