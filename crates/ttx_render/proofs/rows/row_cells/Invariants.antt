use Rattle.std.proofs.Common.{◌≡◌, length, take}
use Rattle.ttx_render.specs.Cells.{cells_to}
use Rattle.ttx_render.specs.Columns.{attributes_left, held_left}
use Rattle.ttx_render.proofs.rows.row_cells.Given as goal

abbrev pub invariant-loop-c : goal.invariant-loop-c
invariant-loop-c l = record {
  size : length l.cells ≡ 40;
  attributes : l.left ≡ attributes_left l.tall l.row l.c;
  held : l.mosaic ≡ held_left l.tall l.row l.c;
  cells : take l.c l.cells ≡ cells_to l.tall l.row l.c l.style.option l.style.boxes;
}
