-- The command line as `clap` reads it, made from the table of commands: what is accepted, and the faults of what is not.
--
--   AreNames, HasNames       names as `clap` holds them, wherever they lie in memory
--   kind_names, class_names, form_names, replay_names      the names that `--kind`, `--class` and `--as` take, also that of `replay`
--   operand_rule, optional_rule, flag_rule      an operand, which has to be there or need not, and an option without a value
--   parser_taking, option_rule              what the value of an option has to be, and an option with a value; half hours are from -24 to 47
--   rule_of_argument, with_arguments        an argument, and a command with arguments
--   app_of_command, with_commands           a command, and a program with commands
--   bare_app, ttx_app        the program alone, and with the commands of the table
--   IsBuiltAs, Builds        what is built of a command, also where memory may run out
use Rattle.std.specs.Prelude.{◌≡◌, pos, negsuc, Bool, List, [], ◌∷◌, codes, fold, map, true, false, Option, Some, None, Result, IfOk}
use Rattle.std.specs.Borrow.{Bor}
use Rattle.clap.specs.Words.{App, Shape, Rule, Text, app_of, new_app, new_rule, with_rule, with_subcommand}
use Rattle.clap.specs.declared.builder.action.ArgAction.TheVariants.{SetTrue}
use Rattle.clap.specs.declared.builder.command.Command.{Command}
use Rattle.clap.specs.declared.builder.command.Command.TheViews.{out-Command}
use Rattle.clap.specs.declared.builder.value_parser.ValueParser.{ValueParser}
use Rattle.clap.specs.declared.builder.value_parser.ValueParser.TheVariants as parser
use Rattle.ttx_arguments.specs.Arguments.{id_of, takes_of, is_needed, name_of, arguments_of}
use Rattle.ttx_arguments.specs.declared.arguments.Argument.{Argument}
use Rattle.ttx_arguments.specs.declared.arguments.Takes.{Takes}
use Rattle.ttx_arguments.specs.declared.arguments.Takes.TheVariants as takes
use Rattle.ttx_arguments.specs.declared.command_names.CommandName.{CommandName}
use Rattle.ttx_arguments.specs.declared.command_names.TheConstants.{COMMANDS}
use Rattle.ttx_arguments.specs.declared.grammar.Names.{Names}

abbrev pub AreNames : Bor (List (Bor Text)) → List Text → Type 0
AreNames names texts = map (λ name. name.now) names.now ≡ texts

abbrev pub kind_names : List Text
kind_names = codes "eager" ∷ codes "careful" ∷ codes "cleared" ∷ []

abbrev pub class_names : List Text
class_names = codes "any" ∷ codes "clearing" ∷ []

abbrev pub form_names : List Text
form_names = codes "text" ∷ codes "ansi" ∷ codes "blocks" ∷ codes "svg" ∷ codes "html" ∷ []

abbrev pub replay_names : List Text
replay_names = codes "words" ∷ codes "text" ∷ codes "html" ∷ []

abbrev pub HasNames : Names → Type 0
HasNames names =
    AreNames names.kinds kind_names × AreNames names.classes class_names × AreNames names.forms form_names × AreNames names.replays replay_names

abbrev pub operand_rule : Text → Rule
operand_rule id = record (new_rule id) { required = true; value_names = 1 }

abbrev pub optional_rule : Text → Rule
optional_rule id = record (new_rule id) { value_names = 1 }

abbrev pub flag_rule : Text → Rule
flag_rule id = record (new_rule id) { long = Some id; action = Some SetTrue }

abbrev pub parser_taking : Names → Takes → Option ValueParser
parser_taking names takes.Operand = None
parser_taking names takes.Optional = None
parser_taking names takes.Text = None
parser_taking names (takes.Number low high) = Some (parser.Unsigned low high)
parser_taking names takes.HalfHours = Some (parser.Signed (negsuc 23) (pos 47))
parser_taking names takes.Kind = Some (parser.Names names.kinds)
parser_taking names takes.Class = Some (parser.Names names.classes)
parser_taking names takes.Form = Some (parser.Names names.forms)
parser_taking names takes.ReplayForm = Some (parser.Names names.replays)
parser_taking names takes.Nothing = None

abbrev pub option_rule : Text → Bool → Option ValueParser → Rule
option_rule id needed parser = record (new_rule id) { long = Some id; value_names = 1; required = needed; parser = parser }

abbrev pub rule_taking : Names → Text → Bool → Takes → Rule
rule_taking names id needed takes.Operand = operand_rule id
rule_taking names id needed takes.Optional = optional_rule id
rule_taking names id needed takes.Nothing = flag_rule id
rule_taking names id needed takes.Text = option_rule id needed None
rule_taking names id needed (takes.Number low high) = option_rule id needed (Some (parser.Unsigned low high))
rule_taking names id needed takes.HalfHours = option_rule id needed (Some (parser.Signed (negsuc 23) (pos 47)))
rule_taking names id needed takes.Kind = option_rule id needed (Some (parser.Names names.kinds))
rule_taking names id needed takes.Class = option_rule id needed (Some (parser.Names names.classes))
rule_taking names id needed takes.Form = option_rule id needed (Some (parser.Names names.forms))
rule_taking names id needed takes.ReplayForm = option_rule id needed (Some (parser.Names names.replays))

abbrev pub rule_of_argument : Names → Argument → Rule
rule_of_argument names argument = rule_taking names (id_of argument) (is_needed argument) (takes_of argument)

abbrev pub with_arguments : Names → List Argument → App → App
with_arguments names arguments app = fold (λ app argument. with_rule app (rule_of_argument names argument)) app arguments

abbrev pub app_of_command : Names → CommandName → App
app_of_command names command = with_arguments names (arguments_of command) (new_app (name_of command))

abbrev pub with_commands : Names → List CommandName → App → App
with_commands names commands app = fold (λ app command. with_subcommand app (app_of_command names command).top) app commands

-- given the words after its name, it needs a command; it has a version, and `clap` adds the command `help`
abbrev pub bare : Shape → Shape
bare s = record s { no_binary_name = true; subcommand_required = true; has_version = true }

abbrev pub bare_app : App
bare_app = record { top = bare (new_app (codes "ttx")).top; subs = [] }

unfoldable pub ttx_app : Names → App
ttx_app names = with_commands names COMMANDS bare_app

abbrev pub IsBuiltAs : Command → App → Type 0
IsBuiltAs c app = (app_of c ≡ app) × ((out-Command c).has_globals ≡ false)

abbrev pub Builds : {E : Type 0} → Result Command E → App → Type 0
Builds result app = IfOk result (λ c. IsBuiltAs c app)
