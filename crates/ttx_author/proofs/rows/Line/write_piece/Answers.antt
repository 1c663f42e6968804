use Rattle.std.proofs.Common.{◌∙◌, ◌<◌, ◌-◌, ◌+◌, ◌++◌, arith, ap, replicate}
use Rattle.std.proofs.lemmas.Result.{err_from_is_err_and}
use Rattle.ttx_author.specs.Marks.{placed}
use Rattle.ttx_author.specs.Rows.{continued_line}
use Rattle.ttx_author.proofs.Steps.{one-cell}
use Rattle.ttx_author.proofs.rows.Line.write_piece.Goals as goal

pub returns-in_err-write-clause-code : goal.returns-in_err-write-clause-code
returns-in_err-write-clause-code c = λ marks.
    let p = err_from_is_err_and c.from_residual.result c.from_residual.ensures.1 in
    let m = placed c.args.place c.args.piece.mark in
    let some : c.loop-cell._cell < c.args.piece.cells = omega arith in
    rw (p.1, p.2) (c.loop-cell.invariant.so_far marks
    ∙ ap (continued_line c.args.width c.args.option c.loop-cell.self) (one-cell c.args.piece.cells c.loop-cell._cell m marks some)
    ∙ c.in_err-write.ensures.code (replicate (c.args.piece.cells - (c.loop-cell._cell + 1)) m ++ marks))

pub loop-cell-preserved : goal.loop-cell-preserved
loop-cell-preserved c =
    let m = placed c.args.place c.args.piece.mark in
    let some : c.loop-cell._cell < c.args.piece.cells = omega arith in
    record {
      room = c.in_ok-write.ensures.room;
      so_far = λ marks.
          c.loop-cell.invariant.so_far marks
          ∙ ap (continued_line c.args.width c.args.option c.loop-cell.self) (one-cell c.args.piece.cells c.loop-cell._cell m marks some)
          ∙ c.in_ok-write.ensures.code (replicate (c.args.piece.cells - (c.loop-cell._cell + 1)) m ++ marks);
    }
