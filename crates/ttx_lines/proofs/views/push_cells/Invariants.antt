use Rattle.std.proofs.Common.{◌≡◌, ◌++◌, drop, string_bytes}
use Rattle.ttx_lines.specs.ViewLines.{cell_words}
use Rattle.ttx_lines.proofs.views.push_cells.Given as goal

abbrev pub invariant-loop-cell : goal.invariant-loop-cell
invariant-loop-cell l = string_bytes l.text ++ cell_words (drop l.cell-index l.cells) ≡ string_bytes l.initial.text ++ cell_words l.cells
