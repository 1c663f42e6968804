use Rattle.ttx_counter.proofs.StarvedFrom.{starts_are_judged}
use Rattle.ttx_counter.proofs.completeness.starts_are_judged.Goals as goal

pub returns : goal.returns
returns c =
    starts_are_judged (record {
      turn = c.each_slot_turns.ensures;
      move = c.streams_move.ensures;
      again = c.cycles_repeat.ensures;
      one_owner = c.owners_are_unique.ensures;
      owners_rise = c.owners_dont_fall.ensures;
      runs_rise = c.runs_rise.ensures;
      decided = c.coverage_is_decided.ensures;
      firsts = c.firsts_are_found.ensures;
    })
