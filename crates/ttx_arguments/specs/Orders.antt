-- What a command line asks for.
--
--   LookView, look_view      how a page is shown
--   look_seen                the same where colours are shown or not
--   OrderView, order_view    an order, its texts as bytes
--   number_given, number_at  the number that a parse gives an argument
--   kind_named, class_named, form_named, replay_form_named      a kind of receiver, a class and a form by its name
--   clock_at, sending_at     the clock in page headers, and the fields that `send` sends
--   is_cycle_twice, is_twice        a cycle that is read twice, or more than one input, is standard input
--   order_by, order_at       the order of a command with its values, or why there is none
--   Asks                     what a command line asks for
--   Refuses, Answers         what is returned for a command line
--   IsFaultOf, IsSettled     an error of `clap` by its own name, and what it becomes
use Rattle.std.specs.Prelude.{◌≡◌, ◌≢◌, ◌≤◌, ◌⊎◌, ℕ, Bool, true, false, not, ◌&&◌, ◌||◌, List, [], ◌∷◌, ⊤, Option, Some, None, option_map, option_and_then, Result, Ok, Err, codes}
use Rattle.std.specs.Prelude.{is_some, unwrap_or, count_by, nat_lt, nat_le, if◌then◌else◌, ℤ, pos}
use Rattle.std.specs.Str.{bytes_eq}
use Rattle.clap.specs.Words.{App, Row, Text, Kinds, IsAmong, subcommand_of, fault_of, kind_of}
use Rattle.clap.specs.declared.error.Error.{Error}
use Rattle.clap.specs.declared.error.kind.ErrorKind.TheVariants.{OutOfMemory, DisplayVersion}
use Rattle.ttx_page.specs.declared.class.Class.{Class}
use Rattle.ttx_page.specs.declared.class.Class.TheVariants.{Any, Clearing}
use Rattle.ttx_page.specs.declared.selection.Selection.{Selection}
use Rattle.ttx_arguments.specs.Arguments.{takes_of, is_input, arguments_of, command_named}
use Rattle.ttx_arguments.specs.Conflicts.{conflict_at}
use Rattle.ttx_arguments.specs.Grammar.{HasNames, ttx_app}
use Rattle.ttx_arguments.specs.declared.arguments.Argument.{Argument}
use Rattle.ttx_arguments.specs.declared.arguments.Argument.TheVariants as argument
use Rattle.ttx_arguments.specs.declared.arguments.Takes.{Takes}
use Rattle.ttx_arguments.specs.declared.arguments.Takes.TheVariants as takes
use Rattle.ttx_arguments.specs.declared.grammar.Names.{Names}
use Rattle.ttx_arguments.specs.PageNames.{selection_of}
use Rattle.ttx_arguments.specs.Timings.{StartView, start_named, ClockView, clock_ahead, clock_in, TimingView, timing_view, signed_numeral, half_hours}
use Rattle.ttx_arguments.specs.Numbers.{numeral}
use Rattle.ttx_arguments.specs.Seconds.{fields_of}
use Rattle.ttx_arguments.specs.Values.{given_at, text_at, is_set}
use Rattle.ttx_picture.specs.declared.forms.Form.{Form}
use Rattle.ttx_picture.specs.declared.forms.Form.TheVariants as form
use Rattle.ttx_arguments.specs.declared.command_names.CommandName.{CommandName}
use Rattle.ttx_arguments.specs.declared.command_names.CommandName.TheVariants as command
use Rattle.ttx_arguments.specs.declared.conflicts.Conflict.{Conflict}
use Rattle.ttx_arguments.specs.declared.orders.Look.{Look}
use Rattle.ttx_arguments.specs.declared.orders.Order.{Order}
use Rattle.ttx_arguments.specs.declared.orders.Order.TheVariants.{Inspect, Plan, Find, Certify, Refute, Replay, Receive, Show, Preview, PreviewAll, Splice, Wait}
use Rattle.ttx_arguments.specs.declared.orders.Order.TheVariants.{Send, Air, AirReplay, Monitor, Report, Pages, Book, Extract, Check, Compose, Decompose, Explain, Version}
use Rattle.ttx_arguments.specs.declared.orders.ReceiverKind.{ReceiverKind}
use Rattle.ttx_arguments.specs.declared.orders.ReceiverKind.TheVariants.{Eager, Careful, Cleared}
use Rattle.ttx_arguments.specs.declared.orders.ReplayForm.{ReplayForm}
use Rattle.ttx_arguments.specs.declared.orders.ReplayForm.TheVariants as shown
use Rattle.ttx_arguments.specs.declared.orders.Sending.{Sending}
use Rattle.ttx_arguments.specs.declared.orders.Tuning.{Tuning}
use Rattle.ttx_arguments.specs.declared.orders.WordsFault.{WordsFault}
use Rattle.ttx_arguments.specs.declared.orders.WordsFault.TheVariants.{Refused, Page, Time, Seconds, Deadlines, Within, Numbers, Clocks, Twice, NoMemory, Apart, Forms}

-- how a page is shown, its name as bytes
pub record LookView : Type 0 where
  pub page : Text
  pub form : Form
  pub given : Bool
  pub reveal : Bool

abbrev pub look_view : Look → LookView
look_view look = record { page = look.page.now; form = look.form; given = look.given; reveal = look.reveal }

-- a form that is not asked for is text where no colours are shown
abbrev pub seen_form : Bool → Bool → Form → Form
seen_form given colours asked = if given || colours then asked else form.Text

abbrev pub look_seen : Bool → LookView → LookView
look_seen colours look = record look { form = seen_form look.given colours look.form }

-- an order, its texts as bytes
pub data OrderView : Type 0 where
  inspect_order : (file : Text) → OrderView
  plan_order : (service out : Text) → (class : Class) → (late spread : Bool) → OrderView
  find_order : (cycle service out : Text) → (repeat : ℕ) → (class : Class) → (deadline : Option ℕ) → OrderView
  certify_order : (cycle service certificate : Text) → (late numbers twice : Bool) → (within : Option ℕ) → (all json : Bool) → OrderView
  refute_order : (cycle service certificate : Text) → (save : Option Text) → (json : Bool) → OrderView
  replay_order : (cycle service counter : Text) → (form : ReplayForm) → OrderView
  receive_order : (cycle : Text) → (tuning : Tuning) → OrderView
  show_order : (cycle : Text) → (tuning : Tuning) → (look : LookView) → OrderView
  preview_order : (service : Text) → (selection : Selection) → (look : LookView) → OrderView
  preview_all_order : (service : Text) → (look : LookView) → OrderView
  splice_order : (old new old_service new_service old_certificate new_certificate : Text) → (sent : Option ℕ) → (late : Bool) → OrderView
  wait_order : (cycle service : Text) → (repeat : ℕ) → (class : Class) → (items numbers json : Bool) → OrderView
  send_order : (cycle : Text) → (timing : TimingView) → (sending : Sending) → (force : Bool) → OrderView
  monitor_order : (cycle service certificate feed : Text) → (start : Option ℕ) → (all : Bool) → (every : Option ℕ) → (rows json : Bool) → OrderView
  air_order : (service : Text) → (within repeat : ℕ) → (timing : TimingView) → (fields : Option ℕ) → (late spread : Bool) → (log : Option Text) → (force : Bool) → OrderView
  air_replay_order : (log texts : Text) → (force : Bool) → OrderView
  report_order : (cycle service certificate out : Text) → (date : Option Text) → OrderView
  pages_order : (cycle : Text) → (json : Bool) → OrderView
  book_order : (cycle out : Text) → OrderView
  extract_order : (cycle out : Text) → (lines : Option ℕ) → (partial : Bool) → OrderView
  check_order : (service : Text) → (long strict json : Bool) → OrderView
  compose_order : (author out : Text) → OrderView
  decompose_order : (service out : Text) → OrderView
  explain_order : (reason : Text) → OrderView
  version_order : OrderView

abbrev pub order_view : Order → OrderView
order_view (Inspect file) = inspect_order file.now
order_view (Plan o) = plan_order o.service.now o.out.now o.class o.late o.spread
order_view (Find o) = find_order o.cycle.now o.service.now o.out.now o.repeat o.class o.deadline
order_view (Certify o) = certify_order o.cycle.now o.service.now o.certificate.now o.late o.numbers o.twice o.within o.all o.json
order_view (Refute o) = refute_order o.cycle.now o.service.now o.certificate.now (option_map (λ s. s.now) o.save) o.json
order_view (Replay o) = replay_order o.cycle.now o.service.now o.counter.now o.form
order_view (Receive cycle tuning) = receive_order cycle.now tuning
order_view (Show cycle tuning look) = show_order cycle.now tuning (look_view look)
order_view (Preview service selection look) = preview_order service.now selection (look_view look)
order_view (PreviewAll service look) = preview_all_order service.now (look_view look)
order_view (Splice o) =
    splice_order o.old.now o.new.now o.old_service.now o.new_service.now o.old_certificate.now o.new_certificate.now o.sent o.late
order_view (Wait o) = wait_order o.cycle.now o.service.now o.repeat o.class o.items o.numbers o.json
order_view (Send o) = send_order o.cycle.now (timing_view o.timing) o.sending o.force
order_view (Air o) =
    air_order o.service.now o.within o.repeat (timing_view o.timing) o.fields o.late o.spread (option_map (λ s. s.now) o.log) o.force
order_view (Monitor o) = monitor_order o.cycle.now o.service.now o.certificate.now o.feed.now o.start o.all o.every o.rows o.json
order_view (AirReplay o) = air_replay_order o.log.now o.texts.now o.force
order_view (Report o) = report_order o.cycle.now o.service.now o.certificate.now o.out.now (option_map (λ s. s.now) o.date)
order_view (Pages cycle json) = pages_order cycle.now json
order_view (Book cycle out) = book_order cycle.now out.now
order_view (Extract cycle out lines partial) = extract_order cycle.now out.now lines partial
order_view (Check o) = check_order o.service.now o.long o.strict o.json
order_view (Compose author out) = compose_order author.now out.now
order_view (Decompose service out) = decompose_order service.now out.now
order_view (Explain reason) = explain_order reason.now
order_view Version = version_order

-- a number in the range that an option takes
abbrev pub IsInside : Takes → ℕ → Type 0
IsInside (takes.Number low high) number = (low ≤ number) × (number ≤ high)
IsInside _ number = ⊤

abbrev pub inside : Takes → ℕ → Option ℕ
inside (takes.Number low high) number = if nat_le low number && nat_le number high then Some number else None
inside _ number = None

-- The number that an option was given. Texts that are no number in its range are refused by `clap`.
abbrev pub number_given : Argument → List Row → Option ℕ
number_given argument rows = option_and_then (inside (takes_of argument)) (option_and_then numeral (given_at argument rows))

-- the same, or the default
abbrev pub number_at : Argument → ℕ → List Row → ℕ
number_at argument default rows = unwrap_or (number_given argument rows) default

abbrev pub repeat_at : List Row → ℕ
repeat_at rows = number_at argument.Repeat 1 rows

abbrev pub lines_at : List Row → ℕ
lines_at rows = number_at argument.Lines 16 rows

-- eager by default
abbrev pub kind_named : Text → ReceiverKind
kind_named name =
    if bytes_eq name (codes "careful") then Careful
    else if bytes_eq name (codes "cleared") then Cleared
    else Eager

-- any by default
abbrev pub class_named : Text → Class
class_named name = if bytes_eq name (codes "clearing") then Clearing else Any

-- terminal codes by default
abbrev pub form_named : Text → Form
form_named name =
    if bytes_eq name (codes "text") then form.Text
    else if bytes_eq name (codes "blocks") then form.Blocks
    else if bytes_eq name (codes "svg") then form.Svg
    else if bytes_eq name (codes "html") then form.Html
    else form.Ansi

abbrev pub replay_form_named : Text → ReplayForm
replay_form_named name =
    if bytes_eq name (codes "text") then shown.Text
    else if bytes_eq name (codes "html") then shown.Html
    else shown.Words

-- why words that `clap` accepts are refused
pub data Unfit : Type 0 where
  no_page : Unfit
  no_time : Unfit
  no_seconds : Unfit
  two_deadlines : Unfit
  within_and_more : Unfit
  numbers_unfit : Unfit
  two_clocks : Unfit
  named_twice : Unfit
  apart : Conflict → Unfit
  one_page_form : Unfit

abbrev pub tuning_asked : Selection → List Row → Tuning
tuning_asked selection rows = record {
  selection = selection;
  lines = lines_at rows;
  start = number_at argument.Start 0 rows;
  slots = number_at argument.Slots 5000 rows;
  kind = kind_named (text_at argument.Kind rows);
}

abbrev pub receive_by : Option Selection → List Row → Result OrderView Unfit
receive_by None rows = Err no_page
receive_by (Some selection) rows = Ok (receive_order (text_at argument.Cycle rows) (tuning_asked selection rows))

abbrev pub look_at : List Row → LookView
look_at rows = record {
  page = text_at argument.Page rows;
  form = form_named (text_at argument.Form rows);
  given = is_some (given_at argument.Form rows);
  reveal = is_set argument.Reveal rows;
}

abbrev pub show_by : Option Selection → List Row → Result OrderView Unfit
show_by None rows = Err no_page
show_by (Some selection) rows = Ok (show_order (text_at argument.Cycle rows) (tuning_asked selection rows) (look_at rows))

abbrev pub preview_by : Option Selection → List Row → Result OrderView Unfit
preview_by None rows = Err no_page
preview_by (Some selection) rows = Ok (preview_order (text_at argument.Service rows) selection (look_at rows))

abbrev pub inspect_at : List Row → OrderView
inspect_at rows = inspect_order (text_at argument.File rows)

abbrev pub plan_at : List Row → OrderView
plan_at rows =
    plan_order (text_at argument.Service rows) (text_at argument.Planned rows) (class_named (text_at argument.Class rows))
    (is_set argument.PlannedLate rows) (is_set argument.Spread rows)

abbrev pub find_with : Option ℕ → List Row → OrderView
find_with deadline rows =
    find_order (text_at argument.Cycle rows) (text_at argument.Service rows) (text_at argument.Found rows)
    (repeat_at rows) (class_named (text_at argument.Class rows)) deadline

abbrev pub find_within : Option ℕ → List Row → Result OrderView Unfit
find_within None rows = Err no_seconds
find_within (Some fields) rows = Ok (find_with (Some fields) rows)

-- the deadline in fields or in seconds, or neither, but not both
abbrev pub find_by : Option ℕ → Option Text → List Row → Result OrderView Unfit
find_by deadline None rows = Ok (find_with deadline rows)
find_by (Some fields) (Some seconds) rows = Err two_deadlines
find_by None (Some seconds) rows = find_within (fields_of seconds) rows

abbrev pub find_at : List Row → Result OrderView Unfit
find_at rows = find_by (number_given argument.Deadline rows) (given_at argument.Within rows) rows

abbrev pub certify_with : Option ℕ → List Row → OrderView
certify_with within rows =
    certify_order (text_at argument.Cycle rows) (text_at argument.Service rows) (text_at argument.Certificate rows)
    (is_set argument.Late rows) (is_set argument.Numbers rows) (is_set argument.Twice rows) within
    (is_set argument.CertifyAll rows) (is_set argument.Json rows)

abbrev pub certify_required : Option ℕ → List Row → Result OrderView Unfit
certify_required None rows = Err no_seconds
certify_required (Some fields) rows = Ok (certify_with (Some fields) rows)

-- seconds cannot be combined with late receivers or a cycle that is read twice
abbrev pub certify_within : Text → List Row → Result OrderView Unfit
certify_within seconds rows =
    if is_set argument.Late rows || is_set argument.Twice rows then Err within_and_more
    else certify_required (fields_of seconds) rows

-- page numbers require late receivers, and cannot be combined with a cycle that is read twice
abbrev pub certify_numbers : List Row → Result OrderView Unfit
certify_numbers rows =
    if is_set argument.Late rows && not (is_set argument.Twice rows) then Ok (certify_with None rows) else Err numbers_unfit

-- page numbers or seconds, which cannot be combined
abbrev pub certify_by : Bool → Option Text → List Row → Result OrderView Unfit
certify_by false None rows = Ok (certify_with None rows)
certify_by false (Some seconds) rows = certify_within seconds rows
certify_by true None rows = certify_numbers rows
certify_by true (Some seconds) rows = Err numbers_unfit

abbrev pub certify_at : List Row → Result OrderView Unfit
certify_at rows = certify_by (is_set argument.Numbers rows) (given_at argument.Within rows) rows

abbrev pub refute_at : List Row → OrderView
refute_at rows =
    refute_order (text_at argument.Cycle rows) (text_at argument.Service rows) (text_at argument.Certificate rows) (given_at argument.Save rows)
    (is_set argument.Json rows)

abbrev pub replay_at : List Row → OrderView
replay_at rows =
    replay_order (text_at argument.Cycle rows) (text_at argument.Service rows) (text_at argument.Counter rows)
    (replay_form_named (text_at argument.ReplayForm rows))

abbrev pub receive_at : List Row → Result OrderView Unfit
receive_at rows = receive_by (selection_of (text_at argument.Page rows)) rows

abbrev pub show_at : List Row → Result OrderView Unfit
show_at rows = show_by (selection_of (text_at argument.Page rows)) rows

-- SVG and HTML are forms of one page
abbrev pub is_of_one_page : Form → Bool
is_of_one_page form.Svg = true
is_of_one_page form.Html = true
is_of_one_page _ = false

abbrev pub preview_all_at : List Row → Result OrderView Unfit
preview_all_at rows =
    if is_of_one_page (look_at rows).form then Err one_page_form else Ok (preview_all_order (text_at argument.Service rows) (look_at rows))

-- all pages, or the one that is named; where none is, it is refused as one
abbrev pub preview_at : List Row → Result OrderView Unfit
preview_at rows =
    if is_set argument.PreviewAll rows then preview_all_at rows else preview_by (selection_of (text_at argument.Page rows)) rows

abbrev pub splice_asked : List Row → OrderView
splice_asked rows =
    splice_order (text_at argument.Old rows) (text_at argument.New rows) (text_at argument.OldService rows) (text_at argument.NewService rows)
    (text_at argument.OldCertificate rows) (text_at argument.NewCertificate rows) (number_given argument.Sent rows)
    (is_set argument.SplicedLate rows)

abbrev pub wait_at : List Row → OrderView
wait_at rows =
    wait_order (text_at argument.Cycle rows) (text_at argument.Service rows) (repeat_at rows)
    (class_named (text_at argument.Class rows)) (is_set argument.Items rows) (is_set argument.WaitNumbers rows)
    (is_set argument.Json rows)

abbrev pub monitor_at : List Row → OrderView
monitor_at rows =
    monitor_order (text_at argument.Cycle rows) (text_at argument.Service rows) (text_at argument.Certificate rows) (text_at argument.Feed rows)
    (number_given argument.FeedStart rows) (is_set argument.MonitorAll rows) (number_given argument.Every rows) (is_set argument.Rows rows)
    (is_set argument.Json rows)

abbrev pub report_at : List Row → OrderView
report_at rows =
    report_order (text_at argument.Cycle rows) (text_at argument.Service rows) (text_at argument.Certificate rows) (text_at argument.Reported rows)
    (given_at argument.Date rows)

abbrev pub pages_at : List Row → OrderView
pages_at rows = pages_order (text_at argument.Cycle rows) (is_set argument.Json rows)

abbrev pub book_at : List Row → OrderView
book_at rows = book_order (text_at argument.Cycle rows) (text_at argument.Book rows)

abbrev pub extract_at : List Row → OrderView
extract_at rows =
    extract_order (text_at argument.Cycle rows) (text_at argument.Extracted rows) (number_given argument.GivenLines rows) (is_set argument.Partial rows)

abbrev pub check_at : List Row → OrderView
check_at rows =
    check_order (text_at argument.Service rows) (is_set argument.Long rows) (is_set argument.Strict rows) (is_set argument.Json rows)

abbrev pub compose_at : List Row → OrderView
compose_at rows = compose_order (text_at argument.Author rows) (text_at argument.Composed rows)

abbrev pub decompose_at : List Row → OrderView
decompose_at rows = decompose_order (text_at argument.Service rows) (text_at argument.Decomposed rows)

abbrev pub explain_at : List Row → OrderView
explain_at rows = explain_order (text_at argument.Reason rows)

abbrev pub half_hours_given : List Row → Option ℤ
half_hours_given rows = option_and_then half_hours (option_and_then signed_numeral (given_at argument.Offset rows))

-- a clock so many half hours ahead of UTC, or of a time zone, or UTC, but not two of them
abbrev pub clock_by : Option ℤ → Option Text → Option ClockView
clock_by None None = Some (clock_ahead (pos 0))
clock_by (Some offset) None = Some (clock_ahead offset)
clock_by None (Some zone) = Some (clock_in zone)
clock_by (Some offset) (Some zone) = None

abbrev pub clock_at : List Row → Option ClockView
clock_at rows = clock_by (half_hours_given rows) (given_at argument.Zone rows)

abbrev pub sending_at : List Row → Sending
sending_at rows = record {
  lines = lines_at rows;
  phase = number_at argument.Phase 0 rows;
  fields = number_at argument.Fields 0 rows;
}

abbrev pub send_by : Option StartView → Option ClockView → List Row → Result OrderView Unfit
send_by None clock rows = Err no_time
send_by (Some start) None rows = Err two_clocks
send_by (Some start) (Some clock) rows =
    Ok (send_order (text_at argument.Cycle rows) (record { start = start; clock = clock }) (sending_at rows) (is_set argument.Force rows))

abbrev pub send_at : List Row → Result OrderView Unfit
send_at rows = send_by (start_named (text_at argument.At rows)) (clock_at rows) rows

-- late by default
abbrev pub air_with : ℕ → TimingView → List Row → OrderView
air_with within timing rows =
    air_order (text_at argument.Watched rows) within (repeat_at rows) timing (number_given argument.AirFields rows)
    (not (is_set argument.AtOnce rows)) (is_set argument.Spread rows) (given_at argument.AirLog rows) (is_set argument.Force rows)

abbrev pub air_by : Option ℕ → Option StartView → Option ClockView → List Row → Result OrderView Unfit
air_by None start clock rows = Err no_seconds
air_by (Some within) None clock rows = Err no_time
air_by (Some within) (Some start) None rows = Err two_clocks
air_by (Some within) (Some start) (Some clock) rows = Ok (air_with within (record { start = start; clock = clock }) rows)

-- now by default
abbrev pub air_start_at : List Row → Option StartView
air_start_at rows = start_named (unwrap_or (given_at argument.AirAt rows) (codes "now"))

abbrev pub air_within : Text → List Row → Result OrderView Unfit
air_within seconds rows = air_by (fields_of seconds) (air_start_at rows) (clock_at rows) rows

-- by the log of an airing, or within some seconds; one of both is needed
abbrev pub air_asked : Option Text → Option Text → List Row → Result OrderView Unfit
air_asked (Some log) within rows = Ok (air_replay_order log (text_at argument.Watched rows) (is_set argument.Force rows))
air_asked None (Some seconds) rows = air_within seconds rows
air_asked None None rows = Err within_and_more

abbrev pub air_at : List Row → Result OrderView Unfit
air_at rows = air_asked (given_at argument.AirReplay rows) (given_at argument.AirWithin rows) rows

abbrev pub is_standard : Argument → List Row → Bool
is_standard argument rows = bytes_eq (text_at argument rows) (codes "-")

-- With `--twice` the cycle is read twice.
abbrev pub is_cycle_twice : List Row → Bool
is_cycle_twice rows = is_set argument.Twice rows && is_standard argument.Cycle rows

-- more than one input is standard input, or a cycle that is read twice
abbrev pub is_twice : CommandName → List Row → Bool
is_twice command rows =
    nat_lt 1 (count_by (λ a. is_input a && is_standard a rows) (arguments_of command))
    || is_cycle_twice rows

-- the order of a command with its values
abbrev pub order_by : CommandName → List Row → Result OrderView Unfit
order_by command.Inspect rows = Ok (inspect_at rows)
order_by command.Plan rows = Ok (plan_at rows)
order_by command.Find rows = find_at rows
order_by command.Certify rows = certify_at rows
order_by command.Refute rows = Ok (refute_at rows)
order_by command.Replay rows = Ok (replay_at rows)
order_by command.Receive rows = receive_at rows
order_by command.Show rows = show_at rows
order_by command.Preview rows = preview_at rows
order_by command.Splice rows = Ok (splice_asked rows)
order_by command.Wait rows = Ok (wait_at rows)
order_by command.Send rows = send_at rows
order_by command.Monitor rows = Ok (monitor_at rows)
order_by command.Pages rows = Ok (pages_at rows)
order_by command.Book rows = Ok (book_at rows)
order_by command.Extract rows = Ok (extract_at rows)
order_by command.Check rows = Ok (check_at rows)
order_by command.Version rows = Ok version_order
order_by command.Air rows = air_at rows
order_by command.Compose rows = Ok (compose_at rows)
order_by command.Decompose rows = Ok (decompose_at rows)
order_by command.Report rows = Ok (report_at rows)
order_by command.Explain rows = Ok (explain_at rows)

-- unless two of its arguments do not go together
abbrev pub fitting : Option Conflict → CommandName → List Row → Result OrderView Unfit
fitting None command rows = order_by command rows
fitting (Some conflict) command rows = Err (apart conflict)

abbrev pub once : CommandName → List Row → Result OrderView Unfit
once command rows = if is_twice command rows then Err named_twice else fitting (conflict_at command rows) command rows

unfoldable pub order_at : Text → List Row → Result OrderView Unfit
order_at name rows = once (command_named name) rows

-- words that `clap` accepts ask for their command with its values
abbrev pub AsksByCommand : App → List Text → Result OrderView Unfit → Type 0
AsksByCommand app words answer =
    (fault_of app words ≡ []) × (option_map (λ p. order_at p.0 p.1) (subcommand_of app words) ≡ Some answer)

-- `--version` and `-V` ask for what the command `version` does
abbrev pub AsksForVersion : App → List Text → Result OrderView Unfit → Type 0
AsksForVersion app words answer = IsAmong DisplayVersion (fault_of app words) × (answer ≡ Ok version_order)

-- no words at all ask for `inspect -`
unfoldable pub Asks : App → List Text → Result OrderView Unfit → Type 0
Asks app [] answer = answer ≡ Ok (inspect_order (codes "-"))
Asks app (word ∷ words) answer = AsksByCommand app (word ∷ words) answer ⊎ AsksForVersion app (word ∷ words) answer

-- the kind of an error of `clap` is one of the faults that it finds in the words, and there is one
unfoldable pub Refuses : App → List Text → Error → Type 0
Refuses app [] error = ⊥
Refuses app (word ∷ words) error = IsAmong (kind_of error) (fault_of app (word ∷ words)) × (kind_of error ≢ DisplayVersion)

abbrev pub AnswersBy : App → List Text → Result Order WordsFault → Type 0
AnswersBy app words (Ok order) = Asks app words (Ok (order_view order))
AnswersBy app words (Err (Refused error)) = Refuses app words error
AnswersBy app words (Err Page) = Asks app words (Err no_page)
AnswersBy app words (Err Time) = Asks app words (Err no_time)
AnswersBy app words (Err Seconds) = Asks app words (Err no_seconds)
AnswersBy app words (Err Deadlines) = Asks app words (Err two_deadlines)
AnswersBy app words (Err Within) = Asks app words (Err within_and_more)
AnswersBy app words (Err Numbers) = Asks app words (Err numbers_unfit)
AnswersBy app words (Err Clocks) = Asks app words (Err two_clocks)
AnswersBy app words (Err Twice) = Asks app words (Err named_twice)
AnswersBy app words (Err (Apart conflict)) = Asks app words (Err (apart conflict))
AnswersBy app words (Err Forms) = Asks app words (Err one_page_form)
AnswersBy app words (Err NoMemory) = ⊤

-- The same with the names that `--kind`, `--class` and `--as` take.
abbrev pub Answers : List Text → Result Order WordsFault → Type 0
Answers words result = (names : Names) × HasNames names × AnswersBy (ttx_app names) words result

-- an order, or the fault of refused words
abbrev pub IsOrderOf : Result Order WordsFault → Result OrderView Unfit → Type 0
IsOrderOf (Ok order) answer = answer ≡ Ok (order_view order)
IsOrderOf (Err Page) answer = answer ≡ Err no_page
IsOrderOf (Err Time) answer = answer ≡ Err no_time
IsOrderOf (Err Seconds) answer = answer ≡ Err no_seconds
IsOrderOf (Err Deadlines) answer = answer ≡ Err two_deadlines
IsOrderOf (Err Within) answer = answer ≡ Err within_and_more
IsOrderOf (Err Numbers) answer = answer ≡ Err numbers_unfit
IsOrderOf (Err Clocks) answer = answer ≡ Err two_clocks
IsOrderOf (Err (Refused error)) answer = ⊥
IsOrderOf (Err Twice) answer = answer ≡ Err named_twice
IsOrderOf (Err (Apart conflict)) answer = answer ≡ Err (apart conflict)
IsOrderOf (Err Forms) answer = answer ≡ Err one_page_form
IsOrderOf (Err NoMemory) answer = ⊥

-- the kind of an error of `clap` is one of these
abbrev pub IsRefusalOf : WordsFault → Kinds → Type 0
IsRefusalOf (Refused error) kinds = IsAmong (kind_of error) kinds
IsRefusalOf Page kinds = ⊥
IsRefusalOf Time kinds = ⊥
IsRefusalOf Seconds kinds = ⊥
IsRefusalOf Deadlines kinds = ⊥
IsRefusalOf Within kinds = ⊥
IsRefusalOf Numbers kinds = ⊥
IsRefusalOf Clocks kinds = ⊥
IsRefusalOf Twice kinds = ⊥
IsRefusalOf (Apart conflict) kinds = ⊥
IsRefusalOf Forms kinds = ⊥
IsRefusalOf NoMemory kinds = ⊤

-- an error of `clap`, and lack of memory by its own name
abbrev pub IsFaultOf : WordsFault → Error → Type 0
IsFaultOf (Refused error) e = (error ≡ e) × (kind_of e ≢ OutOfMemory)
IsFaultOf Page e = ⊥
IsFaultOf Time e = ⊥
IsFaultOf Seconds e = ⊥
IsFaultOf Deadlines e = ⊥
IsFaultOf Within e = ⊥
IsFaultOf Numbers e = ⊥
IsFaultOf Clocks e = ⊥
IsFaultOf Twice e = ⊥
IsFaultOf (Apart conflict) e = ⊥
IsFaultOf Forms e = ⊥
IsFaultOf NoMemory e = kind_of e ≡ OutOfMemory

-- what `clap` refuses stays refused, except the version, which is an order
abbrev pub IsSettled : WordsFault → Result Order WordsFault → Type 0
IsSettled (Refused error) (Ok order) = (kind_of error ≡ DisplayVersion) × (order_view order ≡ version_order)
IsSettled (Refused error) (Err (Refused e)) = (e ≡ error) × (kind_of error ≢ DisplayVersion)
IsSettled NoMemory (Err NoMemory) = ⊤
IsSettled Page (Err Page) = ⊤
IsSettled Time (Err Time) = ⊤
IsSettled Seconds (Err Seconds) = ⊤
IsSettled Deadlines (Err Deadlines) = ⊤
IsSettled Within (Err Within) = ⊤
IsSettled Numbers (Err Numbers) = ⊤
IsSettled Clocks (Err Clocks) = ⊤
IsSettled Twice (Err Twice) = ⊤
IsSettled (Apart conflict) (Err (Apart c)) = c ≡ conflict
IsSettled Forms (Err Forms) = ⊤
IsSettled _ _ = ⊥
