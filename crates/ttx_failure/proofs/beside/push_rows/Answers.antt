use Rattle.std.proofs.Common.{◌≡◌, ◌∙◌, ◌++◌, [], ap, arith, drop, string_bytes, sym}
use Rattle.std.proofs.Math.ListN.{drop_of_length-le}
use Rattle.std.proofs.lemmas.List.{append-nil}
use Rattle.ttx_failure.specs.Beside.{beside_rows, text_after}
use Rattle.ttx_failure.proofs.beside.push_rows.Goals as goal

pub returns-clause-rows : goal.returns-clause-rows
returns-clause-rows c =
    let l = c.loop-number in
    let e : drop l.number c.args.shown.now ≡ [] = drop_of_length-le c.args.shown.now (omega (arith, c.loop-number-test.false)) in
    sym (append-nil (string_bytes l.text)) ∙ ap (λ rows. string_bytes l.text ++ beside_rows c.args.own.now l.number rows l.own_text.now l.shown_text.now) (sym e)
    ∙ l.invariant.2

pub returns-clause-own : goal.returns-clause-own
returns-clause-own c =
    let l = c.loop-number in
    let e : drop l.number c.args.shown.now ≡ [] = drop_of_length-le c.args.shown.now (omega (arith, c.loop-number-test.false)) in
    ap (λ rows. text_after rows l.own_text.now) (sym e) ∙ l.invariant.3

pub returns-clause-shown : goal.returns-clause-shown
returns-clause-shown c =
    let l = c.loop-number in
    let e : drop l.number c.args.shown.now ≡ [] = drop_of_length-le c.args.shown.now (omega (arith, c.loop-number-test.false)) in
    ap (λ rows. text_after rows l.shown_text.now) (sym e) ∙ l.invariant.4
