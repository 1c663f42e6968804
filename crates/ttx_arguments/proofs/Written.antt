-- The examples, by computing.
use Rattle.std.proofs.Common.{refl, inl}
use Rattle.std.specs.Char.{encode_utf8}
use Rattle.std.specs.Str.{chars}
use Rattle.clap.specs.Faults.{defaults_fault, flags_fault, walk_fault}
use Rattle.clap.specs.Takes.{flags_pass, walk_passes}
use Rattle.clap.specs.Walk.{bundle_met, walked}
use Rattle.ttx_digits.specs.Digits.{decimal_in, two_decimals, two_digits, hex_in}
use Rattle.ttx_digits.specs.PageIds.{first_number}
use Rattle.ttx_arguments.specs.PageNames.{selection_of}
use Rattle.ttx_arguments.specs.Arguments.{command_named}
use Rattle.ttx_arguments.specs.Grammar.{ttx_app}
use Rattle.ttx_arguments.specs.Orders.{Asks, order_at}
use Rattle.ttx_arguments.specs.Moments.{moment_of}
use Rattle.ttx_arguments.specs.Seconds.{fields_of, hundredths_of}
use Rattle.ttx_arguments.specs.Examples.{VersionWords, CertifyWords, SendWords, PlanWords, SecondsTexts, FindWords, RepeatWords, SpliceWords, WaitWords, MonitorWords, ExplainWords, AirWords, ComposeWords, TwiceWords, RefuteWords, ReplayWords, PreviewWords, CheckWords, ExtractWords}

pub version_words : VersionWords
unfolding ttx_app walked bundle_met chars encode_utf8 flags_pass walk_passes flags_fault walk_fault defaults_fault
version_words names = (refl, refl)

pub certify_words : CertifyWords
unfolding ttx_app walked bundle_met chars encode_utf8 flags_pass walk_passes flags_fault walk_fault defaults_fault Asks order_at command_named fields_of hundredths_of decimal_in two_decimals
certify_words names = (
  inl (refl, refl),
  inl (refl, refl),
  inl (refl, refl),
  inl (refl, refl),
  inl (refl, refl),
  inl (refl, refl),
  inl (refl, refl),
  inl (refl, refl),
  inl (refl, refl),
  inl (refl, refl),
  inl (refl, refl),
  inl (refl, refl),
  inl (refl, refl),
)

pub send_words : SendWords
unfolding ttx_app walked bundle_met chars encode_utf8 flags_pass walk_passes flags_fault walk_fault defaults_fault Asks order_at command_named moment_of decimal_in two_decimals
send_words names = (
  inl (refl, refl),
  inl (refl, refl),
  inl (refl, refl),
  inl (refl, refl),
  inl (refl, refl),
  inl (refl, refl),
  refl,
  refl,
)

pub plan_words : PlanWords
unfolding ttx_app walked bundle_met chars encode_utf8 flags_pass walk_passes flags_fault walk_fault defaults_fault Asks order_at command_named
plan_words names = (inl (refl, refl), inl (refl, refl), inl (refl, refl), inl (refl, refl))

pub seconds_texts : SecondsTexts
unfolding fields_of hundredths_of decimal_in two_decimals
seconds_texts = (refl, refl, refl, refl, refl, refl, refl, refl, refl, refl, refl, refl, refl, refl, refl)

pub find_words : FindWords
unfolding ttx_app walked bundle_met chars encode_utf8 flags_pass walk_passes flags_fault walk_fault defaults_fault Asks order_at command_named fields_of hundredths_of decimal_in two_decimals
find_words names = (inl (refl, refl), inl (refl, refl), inl (refl, refl), inl (refl, refl), inl (refl, refl), refl)

pub repeat_words : RepeatWords
unfolding ttx_app walked bundle_met chars encode_utf8 flags_pass walk_passes flags_fault walk_fault defaults_fault Asks order_at command_named
repeat_words names = (inl (refl, refl), refl)

pub splice_words : SpliceWords
unfolding ttx_app walked bundle_met chars encode_utf8 flags_pass walk_passes flags_fault walk_fault defaults_fault Asks order_at command_named
splice_words names = (inl (refl, refl), inl (refl, refl), inl (refl, refl), refl)

pub wait_words : WaitWords
unfolding ttx_app walked bundle_met chars encode_utf8 flags_pass walk_passes flags_fault walk_fault defaults_fault Asks order_at command_named
wait_words names = (inl (refl, refl), inl (refl, refl), inl (refl, refl), inl (refl, refl), inl (refl, refl), inl (refl, refl))

pub refute_words : RefuteWords
unfolding ttx_app walked bundle_met chars encode_utf8 flags_pass walk_passes flags_fault walk_fault defaults_fault Asks order_at command_named
refute_words names = (inl (refl, refl), inl (refl, refl))

pub monitor_words : MonitorWords
unfolding ttx_app walked bundle_met chars encode_utf8 flags_pass walk_passes flags_fault walk_fault defaults_fault Asks order_at command_named
monitor_words names = (
  inl (refl, refl),
  inl (refl, refl),
  inl (refl, refl),
  inl (refl, refl),
  inl (refl, refl),
  inl (refl, refl),
  inl (refl, refl),
  inl (refl, refl),
  refl,
)

pub preview_words : PreviewWords
unfolding ttx_app walked bundle_met chars encode_utf8 flags_pass walk_passes flags_fault walk_fault defaults_fault Asks order_at command_named selection_of first_number two_digits hex_in
preview_words names = (inl (refl, refl), inl (refl, refl), inl (refl, refl), inl (refl, refl))

pub check_words : CheckWords
unfolding ttx_app walked bundle_met chars encode_utf8 flags_pass walk_passes flags_fault walk_fault defaults_fault Asks order_at command_named
check_words names = (inl (refl, refl), inl (refl, refl), inl (refl, refl), inl (refl, refl), inl (refl, refl))

pub extract_words : ExtractWords
unfolding ttx_app walked bundle_met chars encode_utf8 flags_pass walk_passes flags_fault walk_fault defaults_fault Asks order_at command_named
extract_words names = (inl (refl, refl), inl (refl, refl))

pub explain_words : ExplainWords
unfolding ttx_app walked bundle_met chars encode_utf8 flags_pass walk_passes flags_fault walk_fault defaults_fault Asks order_at command_named
explain_words names = (inl (refl, refl), inl (refl, refl), inl (refl, refl))

pub replay_words : ReplayWords
unfolding ttx_app walked bundle_met chars encode_utf8 flags_pass walk_passes flags_fault walk_fault defaults_fault Asks order_at command_named
replay_words names = inl (refl, refl)

pub air_words : AirWords
unfolding ttx_app walked bundle_met chars encode_utf8 flags_pass walk_passes flags_fault walk_fault defaults_fault Asks order_at command_named fields_of hundredths_of decimal_in two_decimals moment_of
air_words names = (
  inl (refl, refl),
  inl (refl, refl),
  inl (refl, refl),
  inl (refl, refl),
  inl (refl, refl),
  inl (refl, refl),
  inl (refl, refl),
  inl (refl, refl),
)

pub compose_words : ComposeWords
unfolding ttx_app walked bundle_met chars encode_utf8 flags_pass walk_passes flags_fault walk_fault defaults_fault Asks order_at command_named
compose_words names = inl (refl, refl)

pub twice_words : TwiceWords
unfolding ttx_app walked bundle_met chars encode_utf8 flags_pass walk_passes flags_fault walk_fault defaults_fault Asks order_at command_named
twice_words names = (inl (refl, refl), inl (refl, refl))
