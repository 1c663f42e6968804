use Rattle.std.proofs.Common.{◌≡◌, ◌≤◌, ◌-◌, ◌++◌, List, replicate}
use Rattle.arrayvec.specs.ArrayVec.{array_vec_len}
use Rattle.ttx_author.specs.Marks.{Placed, placed}
use Rattle.ttx_author.specs.Rows.{continued_line}
use Rattle.ttx_author.proofs.rows.Line.write_piece.Given as goal

-- the cells so far and those that are left are those of the piece
abbrev pub invariant-loop-cell : goal.invariant-loop-cell
invariant-loop-cell l = record {
  room : array_vec_len l.self.codes ≤ l.width;
  so_far : (marks : List Placed) → continued_line l.width l.option l.initial.self (replicate l.piece.cells (placed l.place l.piece.mark) ++ marks)
      ≡ continued_line l.width l.option l.self (replicate (l.piece.cells - l._cell) (placed l.place l.piece.mark) ++ marks);
}
