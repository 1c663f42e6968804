-- Words as a user types them, and what they ask for.
--
--   VersionWords             `--version` and `-V`, alone and before another word
--   CertifyWords             an option without a value, seconds, and options that don't go together
--   SendWords                options with values and defaults, half hours at the ends of their range and beyond, a moment that isn't one, and two clocks
--   PlanWords                two options without a value, alone and together
--   SecondsTexts, FindWords  seconds as fields, and texts that are none; one deadline, and two
--   RepeatWords              a number at the end of its range, and one beyond it
--   SpliceWords, WaitWords   a number that need not be there; options without a value
--   MonitorWords             a slot that need not be there, and two inputs that are standard input
--   RefuteWords              an option with a value beside one without
--   PreviewWords, CheckWords an operand that need not be there, in whose place an option is; options without a value
--   ExtractWords             a number that need not be there, beside an option without a value
--   ExplainWords             an operand that names no file; an option of one command, and no other
--   ReplayWords              names of one command, and the one that is meant if none is given
--   AirWords, ComposeWords   the defaults of time, end and receivers; an input and an output that are standard streams
--   TwiceWords               standard input for two inputs, and for a cycle that is read twice
use Rattle.std.specs.Prelude.{◌≡◌, ℕ, pos, negsuc, Bool, List, [], ◌∷◌, ◌++◌, Option, Some, None, Ok, Err, codes, true, false}
use Rattle.clap.specs.Words.{Text, fault_of}
use Rattle.clap.specs.declared.error.kind.ErrorKind.TheVariants.{DisplayVersion, MissingRequiredArgument, ValueValidation}
use Rattle.ttx_page.specs.declared.class.Class.TheVariants.{Any}
use Rattle.ttx_arguments.specs.Grammar.{ttx_app}
use Rattle.ttx_arguments.specs.Orders.{Asks, OrderView, certify_order, find_order, monitor_order, plan_order, send_order, splice_order, wait_order, no_time, two_clocks, no_seconds, two_deadlines, within_and_more, numbers_unfit, named_twice, apart, explain_order, pages_order, refute_order}
use Rattle.ttx_arguments.specs.Orders.{air_order, air_replay_order, check_order, extract_order, compose_order, preview_all_order, preview_order, replay_order, no_page}
use Rattle.ttx_page.specs.declared.selection.Selection.TheVariants.{AnySub}
use Rattle.ttx_picture.specs.declared.forms.Form.TheVariants as form
use Rattle.ttx_arguments.specs.Seconds.{fields_of}
use Rattle.ttx_arguments.specs.Timings.{StartView, start_now, start_utc, start_text, ClockView, clock_ahead, clock_in}
use Rattle.ttx_arguments.specs.declared.arguments.Argument.TheVariants as argument
use Rattle.ttx_arguments.specs.Conflicts as conflicts
use Rattle.ttx_arguments.specs.declared.grammar.Names.{Names}
use Rattle.ttx_arguments.specs.declared.orders.ReplayForm.TheVariants as shown

abbrev pub VersionWords : Type 0
VersionWords =
    (names : Names) → (fault_of (ttx_app names) (codes "--version" ∷ []) ≡ DisplayVersion ∷ [])
    × (fault_of (ttx_app names) (codes "-V" ∷ codes "plan" ∷ []) ≡ DisplayVersion ∷ [])

abbrev certify_texts : List Text
certify_texts = codes "certify" ∷ codes "c" ∷ codes "s" ∷ codes "k" ∷ []

abbrev certified : Bool → Bool → Option ℕ → OrderView
certified late numbers within = certify_order (codes "c") (codes "s") (codes "k") late numbers false within false false

abbrev pub CertifyWords : Type 0
CertifyWords =
    (names : Names) → Asks (ttx_app names) (certify_texts ++ codes "--late" ∷ []) (Ok (certified true false None))
    × Asks (ttx_app names) (certify_texts ++ codes "--within=0.5" ∷ []) (Ok (certified false false (Some 25)))
    × Asks (ttx_app names) (certify_texts ++ codes "--within" ∷ codes "0" ∷ []) (Err no_seconds)
    × Asks (ttx_app names) (certify_texts ++ codes "--twice" ∷ codes "--within=0.5" ∷ []) (Err within_and_more)
    × Asks (ttx_app names) (certify_texts ++ codes "--within" ∷ codes "1" ∷ codes "--late" ∷ []) (Err within_and_more)
    × Asks (ttx_app names) (certify_texts ++ codes "--numbers" ∷ codes "--late" ∷ []) (Ok (certified true true None))
    × Asks (ttx_app names) (certify_texts ++ codes "--numbers" ∷ []) (Err numbers_unfit)
    × Asks (ttx_app names) (certify_texts ++ codes "--late" ∷ codes "--numbers" ∷ codes "--twice" ∷ []) (Err numbers_unfit)
    × Asks (ttx_app names) (certify_texts ++ codes "--late" ∷ codes "--numbers" ∷ codes "--within" ∷ codes "1" ∷ []) (Err numbers_unfit)
    × Asks (ttx_app names) (certify_texts ++ codes "--all" ∷ []) (Ok (certify_order (codes "c") (codes "s") (codes "k") false false false None true false))
    × Asks (ttx_app names) (certify_texts ++ codes "--all" ∷ codes "--within=1" ∷ []) (Err (apart (conflicts.apart argument.CertifyAll argument.Within)))
    × Asks (ttx_app names) (certify_texts ++ codes "--all" ∷ codes "--json" ∷ [])
    (Ok (certify_order (codes "c") (codes "s") (codes "k") false false false None true true))
    × Asks (ttx_app names) (certify_texts ++ codes "--json" ∷ codes "--twice" ∷ [])
    (Ok (certify_order (codes "c") (codes "s") (codes "k") false false true None false true))

abbrev send_texts : Text → List Text
send_texts at = codes "send" ∷ codes "c" ∷ codes "--at" ∷ at ∷ codes "--fields" ∷ codes "3" ∷ codes "--lines" ∷ codes "12" ∷ []

abbrev sent_with : StartView → ClockView → Bool → OrderView
sent_with start clock force =
    send_order (codes "c") (record { start = start; clock = clock }) (record { lines = 12; phase = 0; fields = 3 }) force

abbrev pub SendWords : Type 0
SendWords =
    (names : Names) → Asks (ttx_app names) (send_texts (codes "61000/235959")) (Ok (sent_with (start_utc (61000, 86399)) (clock_ahead (pos 0)) false))
    × Asks (ttx_app names) (send_texts (codes "61000/235959") ++ codes "--offset=-24" ∷ []) (Ok (sent_with (start_utc (61000, 86399)) (clock_ahead (negsuc 23)) false))
    × Asks (ttx_app names) (send_texts (codes "now") ++ codes "--offset" ∷ codes "47" ∷ codes "--force" ∷ []) (Ok (sent_with start_now (clock_ahead (pos 47)) true))
    × Asks (ttx_app names) (send_texts (codes "2026-11-25T12:00:00") ++ codes "--zone" ∷ codes "Europe/Berlin" ∷ [])
    (Ok (sent_with (start_text (codes "2026-11-25T12:00:00")) (clock_in (codes "Europe/Berlin")) false))
    × Asks (ttx_app names) (send_texts (codes "61000/235960")) (Err no_time)
    × Asks (ttx_app names) (send_texts (codes "now") ++ codes "--offset=0" ∷ codes "--zone=UTC" ∷ []) (Err two_clocks)
    × (fault_of (ttx_app names) (send_texts (codes "now") ++ codes "--offset=-25" ∷ []) ≡ ValueValidation ∷ [])
    × (fault_of (ttx_app names) (codes "send" ∷ codes "c" ∷ codes "--at" ∷ codes "now" ∷ codes "--fields" ∷ codes "3" ∷ []) ≡ MissingRequiredArgument ∷ [])

abbrev plan_texts : List Text
plan_texts = codes "plan" ∷ codes "s" ∷ codes "o" ∷ []

abbrev planned : Bool → Bool → OrderView
planned late spread = plan_order (codes "s") (codes "o") Any late spread

abbrev pub PlanWords : Type 0
PlanWords =
    (names : Names) → Asks (ttx_app names) plan_texts (Ok (planned false false))
    × Asks (ttx_app names) (plan_texts ++ codes "--spread" ∷ []) (Ok (planned false true))
    × Asks (ttx_app names) (plan_texts ++ codes "--late" ∷ []) (Ok (planned true false))
    × Asks (ttx_app names) (plan_texts ++ codes "--spread" ∷ codes "--late" ∷ []) (Ok (planned true true))

abbrev pub SecondsTexts : Type 0
SecondsTexts =
    (fields_of (codes "1.28") ≡ Some 64) × (fields_of (codes "1.29") ≡ Some 64) × (fields_of (codes "1.3") ≡ Some 65) × (fields_of (codes "2") ≡ Some 100)
    × (fields_of (codes "0.02") ≡ Some 1) × (fields_of (codes "20000.00") ≡ Some 1000000)
    × (fields_of (codes "0.01") ≡ None) × (fields_of (codes "20000.01") ≡ None)
    × (fields_of (codes ".5") ≡ None) × (fields_of (codes "1.") ≡ None) × (fields_of (codes "1.281") ≡ None) × (fields_of (codes "1.2.8") ≡ None)
    × (fields_of (codes "01") ≡ None) × (fields_of (codes "+1") ≡ None) × (fields_of [] ≡ None)

abbrev find_texts : List Text
find_texts = codes "find" ∷ codes "c" ∷ codes "s" ∷ codes "o" ∷ []

abbrev found_by : Option ℕ → OrderView
found_by deadline = find_order (codes "c") (codes "s") (codes "o") 1 Any deadline

abbrev pub FindWords : Type 0
FindWords =
    (names : Names) → Asks (ttx_app names) find_texts (Ok (found_by None))
    × Asks (ttx_app names) (find_texts ++ codes "--deadline" ∷ codes "1000000" ∷ []) (Ok (found_by (Some 1000000)))
    × Asks (ttx_app names) (find_texts ++ codes "--within" ∷ codes "1.28" ∷ []) (Ok (found_by (Some 64)))
    × Asks (ttx_app names) (find_texts ++ codes "--within" ∷ codes "1,28" ∷ []) (Err no_seconds)
    × Asks (ttx_app names) (find_texts ++ codes "--within" ∷ codes "2" ∷ codes "--deadline" ∷ codes "100" ∷ []) (Err two_deadlines)
    × (fault_of (ttx_app names) (find_texts ++ codes "--deadline" ∷ codes "0" ∷ []) ≡ ValueValidation ∷ [])

abbrev pub RepeatWords : Type 0
RepeatWords =
    (names : Names) → Asks (ttx_app names) (codes "find" ∷ codes "c" ∷ codes "s" ∷ codes "o" ∷ codes "--repeat" ∷ codes "8" ∷ [])
    (Ok (find_order (codes "c") (codes "s") (codes "o") 8 Any None))
    × (fault_of (ttx_app names) (codes "find" ∷ codes "c" ∷ codes "s" ∷ codes "o" ∷ codes "--repeat" ∷ codes "9" ∷ []) ≡ ValueValidation ∷ [])

abbrev splice_texts : List Text
splice_texts = codes "splice" ∷ codes "o" ∷ codes "n" ∷ codes "os" ∷ codes "ns" ∷ codes "oc" ∷ codes "nc" ∷ []

abbrev spliced : Option ℕ → Bool → OrderView
spliced sent late = splice_order (codes "o") (codes "n") (codes "os") (codes "ns") (codes "oc") (codes "nc") sent late

abbrev pub SpliceWords : Type 0
SpliceWords =
    (names : Names) → Asks (ttx_app names) splice_texts (Ok (spliced None false))
    × Asks (ttx_app names) (splice_texts ++ codes "--sent" ∷ codes "0" ∷ []) (Ok (spliced (Some 0) false))
    × Asks (ttx_app names) (splice_texts ++ codes "--sent" ∷ codes "4294967295" ∷ codes "--late" ∷ []) (Ok (spliced (Some 4294967295) true))
    × (fault_of (ttx_app names) (splice_texts ++ codes "--sent" ∷ codes "4294967296" ∷ []) ≡ ValueValidation ∷ [])

abbrev wait_texts : List Text
wait_texts = codes "wait" ∷ codes "c" ∷ codes "s" ∷ []

abbrev waited : Bool → Bool → OrderView
waited items numbers = wait_order (codes "c") (codes "s") 1 Any items numbers false

abbrev pub WaitWords : Type 0
WaitWords =
    (names : Names) → Asks (ttx_app names) wait_texts (Ok (waited false false))
    × Asks (ttx_app names) (wait_texts ++ codes "--items" ∷ []) (Ok (waited true false))
    × Asks (ttx_app names) (wait_texts ++ codes "--numbers" ∷ []) (Ok (waited false true))
    × Asks (ttx_app names) (wait_texts ++ codes "--numbers" ∷ codes "--items" ∷ []) (Ok (waited true true))
    × Asks (ttx_app names) (wait_texts ++ codes "--json" ∷ []) (Ok (wait_order (codes "c") (codes "s") 1 Any false false true))
    × Asks (ttx_app names) (wait_texts ++ codes "--items" ∷ codes "--json" ∷ []) (Ok (wait_order (codes "c") (codes "s") 1 Any true false true))

abbrev refute_texts : List Text
refute_texts = codes "refute" ∷ codes "c" ∷ codes "s" ∷ codes "k" ∷ []

abbrev pub RefuteWords : Type 0
RefuteWords =
    (names : Names) → Asks (ttx_app names) refute_texts (Ok (refute_order (codes "c") (codes "s") (codes "k") None false))
    × Asks (ttx_app names) (refute_texts ++ codes "--json" ∷ codes "--save=o" ∷ [])
    (Ok (refute_order (codes "c") (codes "s") (codes "k") (Some (codes "o")) true))

abbrev monitor_texts : List Text
monitor_texts = codes "monitor" ∷ codes "c" ∷ codes "s" ∷ codes "k" ∷ codes "-" ∷ []

abbrev monitored : Option ℕ → Bool → Option ℕ → Bool → OrderView
monitored start all every rows = monitor_order (codes "c") (codes "s") (codes "k") (codes "-") start all every rows false

abbrev pub MonitorWords : Type 0
MonitorWords =
    (names : Names) → Asks (ttx_app names) monitor_texts (Ok (monitored None false None false))
    × Asks (ttx_app names) (monitor_texts ++ codes "--start=0" ∷ []) (Ok (monitored (Some 0) false None false))
    × Asks (ttx_app names) (monitor_texts ++ codes "--all" ∷ codes "--every=1000000" ∷ []) (Ok (monitored None true (Some 1000000) false))
    × Asks (ttx_app names) (monitor_texts ++ codes "--rows" ∷ []) (Ok (monitored None false None true))
    × Asks (ttx_app names) (monitor_texts ++ codes "--every=50" ∷ codes "--rows" ∷ []) (Err (apart (conflicts.apart argument.Rows argument.Every)))
    × Asks (ttx_app names) (monitor_texts ++ codes "--json" ∷ codes "--rows" ∷ [])
    (Ok (monitor_order (codes "c") (codes "s") (codes "k") (codes "-") None false None true true))
    × Asks (ttx_app names) (monitor_texts ++ codes "--json" ∷ codes "--all" ∷ codes "--every=50" ∷ [])
    (Ok (monitor_order (codes "c") (codes "s") (codes "k") (codes "-") None true (Some 50) false true))
    × Asks (ttx_app names) (codes "monitor" ∷ codes "-" ∷ codes "s" ∷ codes "k" ∷ codes "-" ∷ []) (Err named_twice)
    × (fault_of (ttx_app names) (monitor_texts ++ codes "--start=65536" ∷ []) ≡ ValueValidation ∷ [])

abbrev pub PreviewWords : Type 0
PreviewWords =
    (names : Names) → Asks (ttx_app names) (codes "preview" ∷ codes "s" ∷ codes "100" ∷ [])
    (Ok (preview_order (codes "s") (AnySub 1 0) (record { page = codes "100"; form = form.Ansi; given = false; reveal = false })))
    × Asks (ttx_app names) (codes "preview" ∷ codes "s" ∷ codes "--all" ∷ codes "--reveal" ∷ [])
    (Ok (preview_all_order (codes "s") (record { page = []; form = form.Ansi; given = false; reveal = true })))
    × Asks (ttx_app names) (codes "preview" ∷ codes "s" ∷ []) (Err no_page)
    × Asks (ttx_app names) (codes "preview" ∷ codes "s" ∷ codes "100" ∷ codes "--all" ∷ [])
    (Err (apart (conflicts.apart argument.PreviewAll argument.SomePage)))

abbrev pub CheckWords : Type 0
CheckWords =
    (names : Names) → Asks (ttx_app names) (codes "check" ∷ codes "s" ∷ []) (Ok (check_order (codes "s") false false false))
    × Asks (ttx_app names) (codes "check" ∷ codes "s" ∷ codes "--long" ∷ []) (Ok (check_order (codes "s") true false false))
    × Asks (ttx_app names) (codes "check" ∷ codes "s" ∷ codes "--strict" ∷ []) (Ok (check_order (codes "s") false true false))
    × Asks (ttx_app names) (codes "check" ∷ codes "s" ∷ codes "--json" ∷ []) (Ok (check_order (codes "s") false false true))
    × Asks (ttx_app names) (codes "check" ∷ codes "s" ∷ codes "--json" ∷ codes "--long" ∷ []) (Err (apart (conflicts.apart argument.Json argument.Long)))

abbrev pub ExtractWords : Type 0
ExtractWords =
    (names : Names) → Asks (ttx_app names) (codes "extract" ∷ codes "c" ∷ codes "o" ∷ []) (Ok (extract_order (codes "c") (codes "o") None false))
    × Asks (ttx_app names) (codes "extract" ∷ codes "c" ∷ codes "o" ∷ codes "--lines=12" ∷ codes "--partial" ∷ [])
    (Ok (extract_order (codes "c") (codes "o") (Some 12) true))

abbrev pub ExplainWords : Type 0
ExplainWords =
    (names : Names) → Asks (ttx_app names) (codes "explain" ∷ codes "late" ∷ []) (Ok (explain_order (codes "late")))
    × Asks (ttx_app names) (codes "pages" ∷ codes "c" ∷ codes "--json" ∷ []) (Ok (pages_order (codes "c") true))
    × Asks (ttx_app names) (codes "pages" ∷ codes "c" ∷ []) (Ok (pages_order (codes "c") false))

abbrev replay_texts : List Text
replay_texts = codes "replay" ∷ codes "c" ∷ codes "s" ∷ codes "r" ∷ []

abbrev pub ReplayWords : Type 0
ReplayWords = (names : Names) → Asks (ttx_app names) replay_texts (Ok (replay_order (codes "c") (codes "s") (codes "r") shown.Words))

abbrev air_texts : List Text
air_texts = codes "air" ∷ codes "s" ∷ codes "--within" ∷ codes "20" ∷ []

abbrev aired : Option ℕ → Bool → Option Text → OrderView
aired fields late log =
    air_order (codes "s") 1000 1 (record { start = start_now; clock = clock_ahead (pos 0) }) fields late false log false

abbrev pub AirWords : Type 0
AirWords =
    (names : Names) → Asks (ttx_app names) air_texts (Ok (aired None true None))
    × Asks (ttx_app names) (air_texts ++ codes "--at-once" ∷ codes "--fields=0" ∷ codes "--log=l" ∷ []) (Ok (aired (Some 0) false (Some (codes "l"))))
    × Asks (ttx_app names) (air_texts ++ codes "--late" ∷ codes "--at=now" ∷ []) (Ok (aired None true None))
    × Asks (ttx_app names) (air_texts ++ codes "--late" ∷ codes "--at-once" ∷ []) (Err (apart (conflicts.apart argument.AirLate argument.AtOnce)))
    × Asks (ttx_app names) (air_texts ++ codes "--at=61000/235960" ∷ []) (Err no_time)
    × Asks (ttx_app names) (codes "air" ∷ codes "s" ∷ []) (Err within_and_more)
    × Asks (ttx_app names) (codes "air" ∷ codes "f" ∷ codes "--replay=l" ∷ []) (Ok (air_replay_order (codes "l") (codes "f") false))
    × Asks (ttx_app names) (air_texts ++ codes "--replay" ∷ codes "l" ∷ []) (Err (apart (conflicts.apart argument.AirReplay argument.AirWithin)))

abbrev pub ComposeWords : Type 0
ComposeWords =
    (names : Names) → Asks (ttx_app names) (codes "compose" ∷ codes "-" ∷ codes "-" ∷ []) (Ok (compose_order (codes "-") (codes "-")))

abbrev pub TwiceWords : Type 0
TwiceWords =
    (names : Names) → Asks (ttx_app names) (codes "find" ∷ codes "-" ∷ codes "-" ∷ codes "o" ∷ []) (Err named_twice)
    × Asks (ttx_app names) (codes "certify" ∷ codes "-" ∷ codes "s" ∷ codes "k" ∷ codes "--twice" ∷ []) (Err named_twice)
