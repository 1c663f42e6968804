use Rattle.std.proofs.Common.{◌≡◌, length, take}
use Rattle.ttx_page.specs.Views.{memory_of}
use Rattle.ttx_render.specs.View.{is_below, rows_to}
use Rattle.ttx_render.proofs.view.fill_rows.Given as goal

abbrev pub invariant-loop-number : goal.invariant-loop-number
invariant-loop-number l = record {
  size : length l.cells ≡ 25;
  hidden : l.hidden ≡ is_below (memory_of l.memory) l.number;
  done : take l.number l.cells ≡ rows_to (memory_of l.memory) l.number;
}
