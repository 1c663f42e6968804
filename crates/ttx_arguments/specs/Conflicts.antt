-- Arguments of a command that cannot be combined (profile).
--
--   conflicts_of             the conflicts of a command, in the order in which they are looked at
--   is_there, is_met         whether an argument is given, and whether both of a conflict are
--   conflict_in, conflict_at the first of some conflicts, and of a command's, that is met
--   label_of, conflict_line  an option as it is written, or PAGE, and the line of a refusal
use Rattle.std.specs.Prelude.{Bool, ◌&&◌, is_some, List, [], ◌∷◌, ◌++◌, Option, Some, None, codes, if◌then◌else◌}
use Rattle.clap.specs.Words.{Row, Text}
use Rattle.ttx_arguments.specs.Arguments.{id_of, takes_of}
use Rattle.ttx_arguments.specs.Values.{given_at, is_set}
use Rattle.ttx_arguments.specs.declared.arguments.Argument.{Argument}
use Rattle.ttx_arguments.specs.declared.arguments.Argument.TheVariants as argument
use Rattle.ttx_arguments.specs.declared.arguments.Takes.{Takes}
use Rattle.ttx_arguments.specs.declared.arguments.Takes.TheVariants as takes
use Rattle.ttx_arguments.specs.declared.command_names.CommandName.{CommandName}
use Rattle.ttx_arguments.specs.declared.command_names.CommandName.TheVariants as command
use Rattle.ttx_arguments.specs.declared.conflicts.Conflict.{Conflict}

abbrev pub apart : Argument → Argument → Conflict
apart one other = record { one = one; other = other }

abbrev pub conflicts_of : CommandName → List Conflict
conflicts_of command.Certify =
    apart argument.CertifyAll argument.Late ∷ apart argument.CertifyAll argument.Numbers ∷ apart argument.CertifyAll argument.Twice
    ∷ apart argument.CertifyAll argument.Within ∷ []
conflicts_of command.Monitor = apart argument.Rows argument.MonitorAll ∷ apart argument.Rows argument.Every ∷ []
conflicts_of command.Check = apart argument.Json argument.Long ∷ []
conflicts_of command.Preview = apart argument.PreviewAll argument.SomePage ∷ []
conflicts_of command.Air =
    apart argument.AirLate argument.AtOnce ∷ apart argument.AirReplay argument.AirWithin ∷ apart argument.AirReplay argument.Repeat
    ∷ apart argument.AirReplay argument.AirAt ∷ apart argument.AirReplay argument.Zone ∷ apart argument.AirReplay argument.Offset
    ∷ apart argument.AirReplay argument.AirFields ∷ apart argument.AirReplay argument.AirLate ∷ apart argument.AirReplay argument.AtOnce
    ∷ apart argument.AirReplay argument.Spread ∷ apart argument.AirReplay argument.AirLog ∷ []
conflicts_of _ = []

abbrev pub is_there_as : Takes → Argument → List Row → Bool
is_there_as takes.Nothing argument rows = is_set argument rows
is_there_as _ argument rows = is_some (given_at argument rows)

abbrev pub is_there : Argument → List Row → Bool
is_there argument rows = is_there_as (takes_of argument) argument rows

abbrev pub is_met : Conflict → List Row → Bool
is_met conflict rows = is_there conflict.one rows && is_there conflict.other rows

abbrev pub conflict_in : List Conflict → List Row → Option Conflict
conflict_in [] rows = None
conflict_in (conflict ∷ conflicts) rows = if is_met conflict rows then Some conflict else conflict_in conflicts rows

abbrev pub conflict_at : CommandName → List Row → Option Conflict
conflict_at command rows = conflict_in (conflicts_of command) rows

abbrev pub label_of : Argument → Text
label_of argument.SomePage = codes "PAGE"
label_of argument = codes "--" ++ id_of argument

abbrev pub conflict_line : Conflict → Text
conflict_line conflict = codes "refused: " ++ label_of conflict.one ++ codes " with " ++ label_of conflict.other ++ 10 ∷ []
