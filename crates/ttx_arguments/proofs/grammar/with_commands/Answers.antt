use Rattle.std.proofs.Common.{sym, subst}
use Rattle.std.proofs.lemmas.List.Sums.{fold_more}
use Rattle.clap.specs.Words.{App, with_subcommand}
use Rattle.ttx_arguments.specs.Grammar.{IsBuiltAs, app_of_command, bare_app}
use Rattle.ttx_arguments.specs.declared.command_names.CommandName.{CommandName}
use Rattle.ttx_arguments.proofs.Building.{one_command}
use Rattle.ttx_arguments.proofs.grammar.with_commands.Goals as goal

pub loop-name-preserved : goal.loop-name-preserved
loop-name-preserved c =
    let more = fold_more (λ (a : App) (one : CommandName). with_subcommand a (app_of_command c.args.names one).top) bare_app
    c.args.commands.now c.loop-name.name-index _ c.loop-name-test.true in
    subst (λ (a : App). IsBuiltAs c.in_ok-ttx-2.ttx a) (sym more)
    (one_command _ _ _ _ _ c.loop-name.invariant c.in_ok-command_of.ensures c.in_ok-ttx-2.ensures)
