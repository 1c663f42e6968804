use Rattle.ttx_witness.proofs.lemmas.laws.Unserved as U
use Rattle.ttx_witness.proofs.laws.late_laws.late_is_unserved.Goals as goal

pub returns : goal.returns
returns c = U.late_is_unserved (record {
  judged = c.items_are_judged.ensures;
  one_owner = c.owners_are_unique.ensures;
  owners = c.owners_dont_fall.ensures;
  rise = c.runs_rise.ensures;
  period = c.cycles_repeat.ensures;
  move = c.streams_move.ensures;
})
