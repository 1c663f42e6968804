use Rattle.std.proofs.Common.{◌∙◌, ◌+◌, ◌++◌, ap, arith}
use Rattle.ttx_desk.specs.Words.{name_if, names_from}
use Rattle.ttx_desk.proofs.OptionNames.{names-more, names-end}
use Rattle.ttx_desk.proofs.words.names_with.Goals as goal

pub loop-number-preserved : goal.loop-number-preserved
loop-number-preserved c =
    ap (λ names. names ++ names_from c.args.c (c.loop-number.number + 1)) c.in_ok-push_if.ensures
    ∙ names-more c.args.c c.loop-number.number _ (omega arith) ∙ c.loop-number.invariant
