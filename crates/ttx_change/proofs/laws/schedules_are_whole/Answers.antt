use Rattle.ttx_change.proofs.ScheduledNumbers as L
use Rattle.ttx_change.proofs.laws.schedules_are_whole.Goals as goal

pub returns : goal.returns
returns c =
    L.schedules_are_whole
    (record {
      turn = c.each_slot_turns.ensures;
      move = c.streams_move.ensures;
      one_run = c.runs_are_unique.ensures;
      own = c.steady_sends_its_own.ensures;
      one_owner = c.owners_are_unique.ensures;
      first = c.owners_come_first.ensures;
      fall = c.owners_dont_fall.ensures;
    })
    c.owners_are_near.ensures c.cycles_repeat.ensures c.listed_blocks_are_seen.ensures
