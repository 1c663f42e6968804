use Rattle.std.proofs.Common.{◌≡◌, ◌++◌, ◌*◌, drop, string_bytes}
use Rattle.ttx_picture.specs.Svg.{strokes, cell_halves, drawn}
use Rattle.ttx_picture.proofs.svg.strokes.push_drawn.Given as goal

abbrev pub invariant-loop-cell : goal.invariant-loop-cell
invariant-loop-cell l =
    (l.x ≡ 20 * l.cell-index)
    × (string_bytes l.text ++ strokes l.layer l.current l.down l.x (cell_halves l.reveal l.tall l.layer (drop l.cell-index l.cells))
    ≡ string_bytes l.initial.text ++ drawn l.reveal l.tall l.layer l.cells)
