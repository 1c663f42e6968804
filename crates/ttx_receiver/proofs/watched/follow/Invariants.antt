use Rattle.ttx_page.specs.Views.{memory_of}
use Rattle.ttx_receiver.specs.Touching.{AreAlikeBut}
use Rattle.ttx_receiver.proofs.watched.follow.Given as goal

abbrev pub invariant-loop-row : goal.invariant-loop-row
invariant-loop-row l = AreAlikeBut l.row l.touched.end l.cache (memory_of l.memory)
