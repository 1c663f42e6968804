use Rattle.std.proofs.Common.{◌≡◌, length, take, map}
use Rattle.ttx_render.specs.View.{lower}
use Rattle.ttx_render.proofs.view.below.Given as goal

abbrev pub invariant-loop-c : goal.invariant-loop-c
invariant-loop-c l = record {
  size : length l.cells ≡ 40;
  done : take l.c l.cells ≡ map lower (take l.c l.above);
}
