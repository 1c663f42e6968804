use Rattle.std.proofs.Common.{Some, None, arith, ap, sym, ◌∙◌, ◌+◌, length, take, drop, le_of_eq}
use Rattle.std.proofs.Math.ListN.{drop_of_length-le}
use Rattle.std.proofs.lemmas.List.{take_all}
use Rattle.std.proofs.lemmas.Str.Pattern.{split_once_first}
use Rattle.ttx_failure.proofs.beside.first_line.Goals as goal

pub returns-in-Some-clause-line : goal.returns-in-Some-clause-line
returns-in-Some-clause-line c =
    (split_once_first 10 c.args.text.now (Some (c.in-Some.line, c.in-Some.rest)) c.in-Some.ensures.cases (omega arith)).1

pub returns-in-Some-clause-rest : goal.returns-in-Some-clause-rest
returns-in-Some-clause-rest c =
    (split_once_first 10 c.args.text.now (Some (c.in-Some.line, c.in-Some.rest)) c.in-Some.ensures.cases (omega arith)).2

pub returns-in-None-clause-line : goal.returns-in-None-clause-line
returns-in-None-clause-line c =
    let text = c.args.text.now in
    let end = split_once_first 10 text None c.in-None.ensures.cases (omega arith) in
    sym (ap (λ n. take n text) end ∙ take_all (length text) text (omega arith))

pub returns-in-None-clause-rest : goal.returns-in-None-clause-rest
returns-in-None-clause-rest c =
    let text = c.args.text.now in
    let end = split_once_first 10 text None c.in-None.ensures.cases (omega arith) in
    sym (ap (λ n. drop (n + 1) text) end ∙ drop_of_length-le text (omega arith))
