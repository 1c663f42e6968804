-- A command with an argument more and a program with a command more are those of the grammar, and so is the program with its table.
use Rattle.std.proofs.Common.{◌≡◌, ◌∙◌, ◌||◌, Bool, List, Result, false, subst, ap}
use Rattle.clap.specs.Words.{App, Rule, Text, AddsArg, AddsSubcommand, rule_of, with_rule, with_subcommand, app_of}
use Rattle.clap.specs.declared.builder.arg.Arg.{Arg}
use Rattle.clap.specs.declared.builder.command.Command.{Command}
use Rattle.clap.specs.declared.builder.command.Command.TheViews.{out-Command}
use Rattle.ttx_arguments.specs.Arguments.{named_in, command_named}
use Rattle.ttx_arguments.specs.Grammar.{IsBuiltAs, Builds, with_commands, bare_app, ttx_app}
use Rattle.ttx_arguments.specs.declared.command_names.CommandName.{CommandName}
use Rattle.ttx_arguments.specs.declared.command_names.TheConstants.{COMMANDS}
use Rattle.ttx_arguments.specs.declared.grammar.Names.{Names}

-- an argument more, and a command more
pub one_argument : (old new : Command) (arg : Arg) (rule : Rule) (app : App) → IsBuiltAs old app → AddsArg old arg new → rule_of arg ≡ rule →
    arg.global ≡ false → IsBuiltAs new (with_rule app rule)
one_argument old new arg rule app built adds is local = (
  adds.shape local ∙ ap (λ (a : App). with_rule a (rule_of arg)) built.0 ∙ ap (λ (r : Rule). with_rule app r) is,
  adds.globals ∙ ap (λ (b : Bool). b || arg.global) built.1 ∙ local,
)

pub one_command : (old sub new : Command) (app below : App) → IsBuiltAs old app → IsBuiltAs sub below → AddsSubcommand old sub new →
    IsBuiltAs new (with_subcommand app below.top)
one_command old sub new app below built own adds = (
  adds.shape own.1 ∙ ap (λ (a : App). with_subcommand a (app_of sub).top) built.0 ∙ ap (λ (a : App). with_subcommand app a.top) own.0,
  adds.globals ∙ ap (λ (b : Bool). b || (out-Command sub).has_globals) built.1 ∙ own.1,
)

-- the program with the commands of the table, and the command of a name in it
pub whole : {E : Type 0} (names : Names) (list : List CommandName) (result : Result Command E) → list ≡ COMMANDS →
    Builds result (with_commands names list bare_app) → Builds result (ttx_app names)
unfolding ttx_app
whole names list result is built = subst (λ (l : List CommandName). Builds result (with_commands names l bare_app)) is built

pub named : (name : Text) (list : List CommandName) → list ≡ COMMANDS → named_in name list ≡ command_named name
unfolding command_named
named name list is = ap (λ (l : List CommandName). named_in name l) is
