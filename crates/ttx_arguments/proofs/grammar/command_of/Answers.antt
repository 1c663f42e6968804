use Rattle.std.proofs.Common.{◌∙◌, List, sym, subst}
use Rattle.std.proofs.lemmas.List.{take_all}
use Rattle.std.proofs.lemmas.List.Sums.{fold_more}
use Rattle.clap.specs.Words.{App, new_app, with_rule}
use Rattle.ttx_arguments.specs.Arguments.{name_of}
use Rattle.ttx_arguments.specs.Grammar.{IsBuiltAs, rule_of_argument, with_arguments}
use Rattle.ttx_arguments.specs.declared.arguments.Argument.{Argument}
use Rattle.ttx_arguments.proofs.Building.{one_argument}
use Rattle.ttx_arguments.proofs.grammar.command_of.Goals as goal

pub loop-argument-init : goal.loop-argument-init
loop-argument-init c = c.bare_command-command.ensures

pub loop-argument-preserved : goal.loop-argument-preserved
loop-argument-preserved c =
    let more = fold_more (λ (a : App) (one : Argument). with_rule a (rule_of_argument c.args.names one)) (new_app (name_of c.args.name))
    c.arguments-arguments.result.now c.loop-argument.argument-index _ c.loop-argument-test.true in
    subst (λ (a : App). IsBuiltAs c.in_ok-command.command a) (sym more)
    (one_argument _ _ _ _ _ c.loop-argument.invariant c.in_ok-command.ensures c.argument_of.ensures.rule c.argument_of.ensures.local)

pub returns : goal.returns
returns c =
    let all = take_all c.loop-argument.argument-index c.arguments-arguments.result.now c.loop-argument-test.false in
    subst (λ (list : List Argument). IsBuiltAs c.loop-argument.command (with_arguments c.args.names list (new_app (name_of c.args.name))))
    (all ∙ c.arguments-arguments.ensures) c.loop-argument.invariant
