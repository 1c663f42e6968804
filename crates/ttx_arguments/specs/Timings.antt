-- When a sending begins, and which clock its page headers show (profile).
--
--   StartView, start_dated, start_named     now; a moment in UTC; or a time that a text names, in UTC or by the clock
--   signed_numeral, half_hours      the number of a text after an optional sign; half hours from -24 to 47
--   ClockView               so many half hours ahead of UTC, or by the rules of a time zone
--   TimingView              both
use Rattle.std.specs.Prelude.{ℕ, ℤ, pos, negsuc, int_le, nat_lt, ◌&&◌, if◌then◌else◌, Option, Some, None, option_map, codes}
use Rattle.std.specs.Str.Parse.{digits_value, signed_digits_value, without_leading_sign}
use Rattle.std.specs.Str.{bytes_eq}
use Rattle.clap.specs.Words.{Text}
use Rattle.ttx_arguments.specs.Moments.{is_dated, moment_of}
use Rattle.ttx_arguments.specs.Numbers.{is_numeral}
use Rattle.ttx_arguments.specs.declared.orders.Start.{Start}
use Rattle.ttx_arguments.specs.declared.orders.Start.TheVariants.{Now, Utc, Named}
use Rattle.ttx_arguments.specs.declared.orders.Clock.{Clock}
use Rattle.ttx_arguments.specs.declared.orders.Clock.TheVariants.{Ahead, Zone}
use Rattle.ttx_arguments.specs.declared.orders.Timing.{Timing}

pub data StartView : Type 0 where
  start_now : StartView
  start_utc : ℕ × ℕ → StartView
  start_text : Text → StartView

abbrev pub start_view : Start → StartView
start_view Now = start_now
start_view (Utc moment) = start_utc moment
start_view (Named text) = start_text text.now

abbrev pub start_dated : Text → Option StartView
start_dated text = option_map start_utc (moment_of text)

-- what has the form of MJD/HHMMSS has to be a moment, and any other text names a time
abbrev pub start_named : Text → Option StartView
start_named text =
    if bytes_eq text (codes "now") then Some start_now
    else if is_dated text then start_dated text
    else Some (start_text text)

-- decimal digits, after an optional sign
abbrev pub signed_numeral : Text → Option ℤ
signed_numeral text =
    if is_numeral (without_leading_sign text) && nat_lt (digits_value 10 (without_leading_sign text)) 1000
    then Some (signed_digits_value 10 text) else None

abbrev pub half_hours : ℤ → Option ℤ
half_hours number = if int_le (negsuc 23) number && int_le number (pos 47) then Some number else None

pub data ClockView : Type 0 where
  clock_ahead : ℤ → ClockView
  clock_in : Text → ClockView

abbrev pub clock_view : Clock → ClockView
clock_view (Ahead offset) = clock_ahead offset
clock_view (Zone name) = clock_in name.now

pub record TimingView : Type 0 where
  pub start : StartView
  pub clock : ClockView

abbrev pub timing_view : Timing → TimingView
timing_view timing = record { start = start_view timing.start; clock = clock_view timing.clock }
