-- The commands and their arguments: the table from which the command line is made and read.
--
--   id_of, takes_of, is_needed     an argument's name, what it takes, and whether an option has to be there
--   is_input                       whether it names an input
--   name_of, arguments_of          a command's name and arguments
--   named_in, command_named        the first command of a name in a list, or `inspect`; the same in the table
use Rattle.std.specs.Prelude.{Bool, true, false, List, [], ◌∷◌, codes, if◌then◌else◌}
use Rattle.std.specs.Str.{bytes_eq}
use Rattle.clap.specs.Words.{Text}
use Rattle.ttx_arguments.specs.declared.arguments.Argument.{Argument}
use Rattle.ttx_arguments.specs.declared.arguments.Argument.TheVariants as argument
use Rattle.ttx_arguments.specs.declared.arguments.Takes.{Takes}
use Rattle.ttx_arguments.specs.declared.arguments.Takes.TheVariants as takes
use Rattle.ttx_arguments.specs.declared.command_names.CommandName.{CommandName}
use Rattle.ttx_arguments.specs.declared.command_names.CommandName.TheVariants as command
use Rattle.ttx_arguments.specs.declared.command_names.TheConstants.{COMMANDS}

abbrev pub id_of : Argument → Text
id_of argument.File = codes "file"
id_of argument.Cycle = codes "cycle"
id_of argument.Service = codes "service"
id_of argument.Certificate = codes "certificate"
id_of argument.Counter = codes "counter"
id_of argument.Feed = codes "feed"
id_of argument.Page = codes "page"
id_of argument.Planned = codes "out"
id_of argument.Found = codes "out"
id_of argument.Book = codes "out"
id_of argument.Extracted = codes "out"
id_of argument.Old = codes "old"
id_of argument.New = codes "new"
id_of argument.OldService = codes "old_service"
id_of argument.NewService = codes "new_service"
id_of argument.OldCertificate = codes "old_certificate"
id_of argument.NewCertificate = codes "new_certificate"
id_of argument.Class = codes "class"
id_of argument.Kind = codes "kind"
id_of argument.Form = codes "as"
id_of argument.ReplayForm = codes "as"
id_of argument.Repeat = codes "repeat"
id_of argument.Lines = codes "lines"
id_of argument.NeededLines = codes "lines"
id_of argument.GivenLines = codes "lines"
id_of argument.Start = codes "start"
id_of argument.FeedStart = codes "start"
id_of argument.Slots = codes "slots"
id_of argument.Fields = codes "fields"
id_of argument.Phase = codes "phase"
id_of argument.Offset = codes "offset"
id_of argument.Zone = codes "zone"
id_of argument.Sent = codes "sent"
id_of argument.Deadline = codes "deadline"
id_of argument.Within = codes "within"
id_of argument.Save = codes "save"
id_of argument.At = codes "at"
id_of argument.PlannedLate = codes "late"
id_of argument.Spread = codes "spread"
id_of argument.Numbers = codes "numbers"
id_of argument.WaitNumbers = codes "numbers"
id_of argument.Late = codes "late"
id_of argument.SplicedLate = codes "late"
id_of argument.Twice = codes "twice"
id_of argument.Reveal = codes "reveal"
id_of argument.Items = codes "items"
id_of argument.Force = codes "force"
id_of argument.Author = codes "author"
id_of argument.Composed = codes "out"
id_of argument.Decomposed = codes "out"
id_of argument.Reported = codes "out"
id_of argument.Reason = codes "reason"
id_of argument.Watched = codes "service"
id_of argument.AirWithin = codes "within"
id_of argument.AirAt = codes "at"
id_of argument.AirFields = codes "fields"
id_of argument.AirLog = codes "log"
id_of argument.AirReplay = codes "replay"
id_of argument.Every = codes "every"
id_of argument.Date = codes "date"
id_of argument.AirLate = codes "late"
id_of argument.AtOnce = codes "at-once"
id_of argument.Json = codes "json"
id_of argument.MonitorAll = codes "all"
id_of argument.CertifyAll = codes "all"
id_of argument.Rows = codes "rows"
id_of argument.SomePage = codes "page"
id_of argument.PreviewAll = codes "all"
id_of argument.Long = codes "long"
id_of argument.Strict = codes "strict"
id_of argument.Partial = codes "partial"

-- Ranges of numbers are inclusive.
abbrev pub takes_of : Argument → Takes
takes_of argument.Class = takes.Class
takes_of argument.Kind = takes.Kind
takes_of argument.Form = takes.Form
takes_of argument.ReplayForm = takes.ReplayForm
takes_of argument.Repeat = takes.Number 1 8
takes_of argument.Lines = takes.Number 1 32
takes_of argument.NeededLines = takes.Number 1 32
takes_of argument.GivenLines = takes.Number 1 32
takes_of argument.Start = takes.Number 0 65535
takes_of argument.FeedStart = takes.Number 0 65535
takes_of argument.Slots = takes.Number 0 1000000
takes_of argument.Fields = takes.Number 0 4294967295
takes_of argument.Phase = takes.Number 0 4294967295
takes_of argument.Sent = takes.Number 0 4294967295
takes_of argument.Offset = takes.HalfHours
takes_of argument.Deadline = takes.Number 1 1000000
takes_of argument.Within = takes.Text
takes_of argument.Save = takes.Text
takes_of argument.At = takes.Text
takes_of argument.Zone = takes.Text
takes_of argument.PlannedLate = takes.Nothing
takes_of argument.Spread = takes.Nothing
takes_of argument.Late = takes.Nothing
takes_of argument.SplicedLate = takes.Nothing
takes_of argument.Numbers = takes.Nothing
takes_of argument.WaitNumbers = takes.Nothing
takes_of argument.Twice = takes.Nothing
takes_of argument.Reveal = takes.Nothing
takes_of argument.Items = takes.Nothing
takes_of argument.Force = takes.Nothing
takes_of argument.AirWithin = takes.Text
takes_of argument.AirAt = takes.Text
takes_of argument.AirFields = takes.Number 0 4294967295
takes_of argument.AirLog = takes.Text
takes_of argument.AirReplay = takes.Text
takes_of argument.Every = takes.Number 1 1000000
takes_of argument.Date = takes.Text
takes_of argument.AirLate = takes.Nothing
takes_of argument.AtOnce = takes.Nothing
takes_of argument.Json = takes.Nothing
takes_of argument.MonitorAll = takes.Nothing
takes_of argument.CertifyAll = takes.Nothing
takes_of argument.Rows = takes.Nothing
takes_of argument.SomePage = takes.Optional
takes_of argument.PreviewAll = takes.Nothing
takes_of argument.Long = takes.Nothing
takes_of argument.Strict = takes.Nothing
takes_of argument.Partial = takes.Nothing
takes_of _ = takes.Operand

-- an operand has to be there unless it is optional
abbrev pub is_needed : Argument → Bool
is_needed argument.NeededLines = true
is_needed argument.Fields = true
is_needed argument.At = true
is_needed _ = false

abbrev pub is_input : Argument → Bool
is_input argument.File = true
is_input argument.Cycle = true
is_input argument.Service = true
is_input argument.Certificate = true
is_input argument.Counter = true
is_input argument.Feed = true
is_input argument.Author = true
is_input argument.Old = true
is_input argument.New = true
is_input argument.OldService = true
is_input argument.NewService = true
is_input argument.OldCertificate = true
is_input argument.NewCertificate = true
is_input _ = false

abbrev pub name_of : CommandName → Text
name_of command.Inspect = codes "inspect"
name_of command.Plan = codes "plan"
name_of command.Find = codes "find"
name_of command.Certify = codes "certify"
name_of command.Refute = codes "refute"
name_of command.Replay = codes "replay"
name_of command.Receive = codes "receive"
name_of command.Show = codes "show"
name_of command.Preview = codes "preview"
name_of command.Splice = codes "splice"
name_of command.Wait = codes "wait"
name_of command.Send = codes "send"
name_of command.Monitor = codes "monitor"
name_of command.Pages = codes "pages"
name_of command.Book = codes "book"
name_of command.Extract = codes "extract"
name_of command.Check = codes "check"
name_of command.Version = codes "version"
name_of command.Air = codes "air"
name_of command.Compose = codes "compose"
name_of command.Decompose = codes "decompose"
name_of command.Report = codes "report"
name_of command.Explain = codes "explain"

abbrev pub arguments_of : CommandName → List Argument
arguments_of command.Inspect = argument.File ∷ []
arguments_of command.Plan = argument.Service ∷ argument.Planned ∷ argument.Class ∷ argument.PlannedLate ∷ argument.Spread ∷ []
arguments_of command.Find =
    argument.Cycle ∷ argument.Service ∷ argument.Found ∷ argument.Repeat ∷ argument.Class ∷ argument.Deadline ∷ argument.Within ∷ []
arguments_of command.Certify =
    argument.Cycle ∷ argument.Service ∷ argument.Certificate ∷ argument.Late ∷ argument.Numbers ∷ argument.Twice ∷ argument.Within
    ∷ argument.CertifyAll ∷ argument.Json ∷ []
arguments_of command.Refute = argument.Cycle ∷ argument.Service ∷ argument.Certificate ∷ argument.Save ∷ argument.Json ∷ []
arguments_of command.Replay = argument.Cycle ∷ argument.Service ∷ argument.Counter ∷ argument.ReplayForm ∷ []
arguments_of command.Receive = argument.Cycle ∷ argument.Page ∷ argument.Lines ∷ argument.Start ∷ argument.Slots ∷ argument.Kind ∷ []
arguments_of command.Show =
    argument.Cycle ∷ argument.Page ∷ argument.Lines ∷ argument.Start ∷ argument.Slots ∷ argument.Kind ∷ argument.Form ∷ argument.Reveal ∷ []
arguments_of command.Preview = argument.Service ∷ argument.SomePage ∷ argument.PreviewAll ∷ argument.Form ∷ argument.Reveal ∷ []
arguments_of command.Splice =
    argument.Old ∷ argument.New ∷ argument.OldService ∷ argument.NewService ∷ argument.OldCertificate ∷ argument.NewCertificate ∷ argument.Sent ∷ argument.SplicedLate ∷ []
arguments_of command.Wait =
    argument.Cycle ∷ argument.Service ∷ argument.Repeat ∷ argument.Class ∷ argument.Items ∷ argument.WaitNumbers ∷ argument.Json ∷ []
arguments_of command.Send =
    argument.Cycle ∷ argument.At ∷ argument.Fields ∷ argument.NeededLines ∷ argument.Phase ∷ argument.Offset ∷ argument.Zone ∷ argument.Force ∷ []
arguments_of command.Monitor =
    argument.Cycle ∷ argument.Service ∷ argument.Certificate ∷ argument.Feed ∷ argument.FeedStart ∷ argument.MonitorAll
    ∷ argument.Every ∷ argument.Rows ∷ argument.Json ∷ []
arguments_of command.Pages = argument.Cycle ∷ argument.Json ∷ []
arguments_of command.Book = argument.Cycle ∷ argument.Book ∷ []
arguments_of command.Extract = argument.Cycle ∷ argument.Extracted ∷ argument.GivenLines ∷ argument.Partial ∷ []
arguments_of command.Check = argument.Service ∷ argument.Long ∷ argument.Strict ∷ argument.Json ∷ []
arguments_of command.Version = []
arguments_of command.Air =
    argument.Watched ∷ argument.AirWithin ∷ argument.Repeat ∷ argument.AirAt ∷ argument.Zone ∷ argument.Offset ∷ argument.AirFields
    ∷ argument.AirLate ∷ argument.AtOnce ∷ argument.Spread ∷ argument.AirLog ∷ argument.AirReplay ∷ argument.Force ∷ []
arguments_of command.Compose = argument.Author ∷ argument.Composed ∷ []
arguments_of command.Decompose = argument.Service ∷ argument.Decomposed ∷ []
arguments_of command.Report = argument.Cycle ∷ argument.Service ∷ argument.Certificate ∷ argument.Reported ∷ argument.Date ∷ []
arguments_of command.Explain = argument.Reason ∷ []

abbrev pub named_in : Text → List CommandName → CommandName
named_in name [] = command.Inspect
named_in name (command ∷ commands) = if bytes_eq name (name_of command) then command else named_in name commands

-- `clap` takes no other names
unfoldable pub command_named : Text → CommandName
command_named name = named_in name COMMANDS
