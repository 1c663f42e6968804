use Rattle.std.proofs.Common.{◌≡◌, ◌∙◌, ◌-◌, suc, arith, sym, ap}
use Rattle.std.proofs.lemmas.Result.{err_from_is_err_and}
use Rattle.arrayvec.specs.ArrayVec.{array_vec_len}
use Rattle.ttx_author.specs.Marks.{placed}
use Rattle.ttx_author.specs.Rows.{continued, mode_after}
use Rattle.ttx_author.proofs.Steps.{continued-more, continued-fault, continued-full}
use Rattle.ttx_author.proofs.rows.Line.write.Goals as goal

pub returns-then-len-width-clause-code : goal.returns-then-len-width-clause-code
returns-then-len-width-clause-code c = λ marks. continued-full _ _ _ _ _ marks (omega arith)

pub returns-in_err-code-clause-code : goal.returns-in_err-code-clause-code
returns-in_err-code-clause-code c = λ marks.
    let p = err_from_is_err_and c.from_residual.result c.from_residual.ensures.1 in
    let room : c.args.width - array_vec_len c.args.self.now.codes ≡ suc (c.args.width - array_vec_len c.args.self.now.codes - 1) = omega arith in
    rw (p.1, p.2) (continued-fault c.args.option _ _ c.args.self.now.mosaic _ (placed c.args.place c.args.mark) marks c.in_err-code.field-0.0 room
    (sym c.code_at.ensures ∙ c.in_err-code.was))

pub returns-clause-code : goal.returns-clause-code
returns-clause-code c = λ marks.
    let room : c.args.width - array_vec_len c.args.self.now.codes ≡ suc (c.args.width - array_vec_len c.push.new.self) = omega arith in
    continued-more c.args.option _ _ c.args.self.now.mosaic c.args.self.now.codes.items (placed c.args.place c.args.mark) marks c.in_ok-code.code room
    (sym c.code_at.ensures ∙ c.in_ok-code.was)
    ∙ ap (λ front. continued c.args.option (mode_after c.in_ok-code.code c.args.self.now.mosaic) (c.args.width - array_vec_len c.push.new.self) front marks)
    (sym c.push.ensures.items)
    ∙ ap (λ mosaic. continued c.args.option mosaic (c.args.width - array_vec_len c.push.new.self) c.push.new.self.items marks)
    (sym c.mode_after-self.ensures)
