use Rattle.ttx_press.proofs.WholeAirings as whole
use Rattle.ttx_press.proofs.laws.airings_are_whole.Goals as goal

pub returns : goal.returns
returns g c = whole.airings_are_whole g.S.TextSource.reads c.editions_are_taken.ensures c.schedules_are_whole.ensures
