use Rattle.std.proofs.Common.{◌≡◌}
use Rattle.ttx_page.specs.Views.{memory_of}
use Rattle.ttx_render.specs.View.{is_below}
use Rattle.ttx_render.proofs.touch.is_below.Given as goal

abbrev pub invariant-loop-above : goal.invariant-loop-above
invariant-loop-above l = l.hidden ≡ is_below (memory_of l.memory) l.above
