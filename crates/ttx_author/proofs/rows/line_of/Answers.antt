use Rattle.std.proofs.Common.{◌∙◌, ◌≤◌, ◌-◌, ◌+◌, arith, ap, sym, drop, length, rules}
use Rattle.std.proofs.lemmas.Result.{err_from_is_err_and}
use Rattle.arrayvec.specs.ArrayVec.{array_vec_len}
use Rattle.ttx_author.specs.Marks.{marks_from}
use Rattle.ttx_author.specs.Rows.{continued_line}
use Rattle.ttx_author.proofs.Steps.{continued-end, marks_from-turn, marks_from-end}
use Rattle.ttx_author.proofs.rows.line_of.Goals as goal

pub returns-in_err-write_piece-clause-code : goal.returns-in_err-write_piece-clause-code
returns-in_err-write_piece-clause-code c =
    let p = err_from_is_err_and c.from_residual.result c.from_residual.ensures.1 in
    let piece = c.piece_of-piece.result in
    let turn = marks_from-turn c.loop-at.at c.args.text.now piece c.loop-at-test.true c.piece_of-piece.ensures.value c.piece_of-piece.ensures.size in
    rw (p.1, p.2) (sym c.loop-at.invariant.so_far ∙ ap (continued_line c.args.width c.args.option c.loop-at.line) turn
    ∙ c.in_err-write_piece.ensures.code (marks_from 0 (c.loop-at.at + piece.size) (drop (c.loop-at.at + piece.size) c.args.text.now)))

pub loop-at-preserved : goal.loop-at-preserved
loop-at-preserved c =
    let piece = c.piece_of-piece.result in
    let turn = marks_from-turn c.loop-at.at c.args.text.now piece c.loop-at-test.true c.piece_of-piece.ensures.value c.piece_of-piece.ensures.size in
    record {
      inside = search rules;
      room = c.in_ok-write_piece.ensures.room;
      so_far =
          sym (c.in_ok-write_piece.ensures.code (marks_from 0 (c.loop-at.at + piece.size) (drop (c.loop-at.at + piece.size) c.args.text.now)))
          ∙ sym (ap (continued_line c.args.width c.args.option c.loop-at.line) turn) ∙ c.loop-at.invariant.so_far;
    }

pub returns-clause-code : goal.returns-clause-code
returns-clause-code c =
    let all : length c.args.text.now ≤ c.loop-at.at = omega arith in
    sym c.loop-at.invariant.so_far
    ∙ ap (continued_line c.args.width c.args.option c.loop-at.line) (marks_from-end c.loop-at.at c.loop-at.at c.args.text.now all)
    ∙ continued-end c.args.option (c.args.width - array_vec_len c.loop-at.line.codes) c.loop-at.line.mosaic c.loop-at.line.codes.items
