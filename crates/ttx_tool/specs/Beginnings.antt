-- When a sending begins.
--
--   IsMomentAt              the moment of an instant by the clock of a zone, or there is none on the air
--   Begins                  the moment that is asked for, where the machine's clock shows the instant `now`; `ahead` is that of a moment in UTC
--   BeginsAhead             the same by a clock that is so many half hours ahead of UTC
use Rattle.std.specs.Prelude.{◌≡◌, ◌⊎◌, ℕ, ℤ, pos, ◌*ℤ◌, Option, Some, None, SomeIff, List}
use Rattle.jiff.specs.Types.{Offset, Timestamp, TimeZone}
use Rattle.jiff.specs.Words.{fixed_zone, offset_at}
use Rattle.ttx_arguments.specs.Timings.{StartView, start_now, start_utc, start_text}
use Rattle.ttx_moment.specs.Instants.{ahead, moment_of_instant, IsOnTheAir}
use Rattle.ttx_moment.specs.Texts.{IsRead}
use Rattle.ttx_send.specs.Times.{Moment, moment_at}

abbrev pub IsMomentAt : TimeZone → ℤ → Option Moment → Type 0
IsMomentAt zone nanos result = SomeIff result (IsOnTheAir nanos (offset_at zone nanos)) (moment_of_instant nanos (offset_at zone nanos))

-- a text that names no time has no moment, and one that does has that of its instant
abbrev pub BeginsAt : TimeZone → List ℕ → Option Moment → Type 0
BeginsAt zone text (Some moment) = (instant : Timestamp) × IsRead zone text (Some instant) × IsMomentAt zone instant.nanosecond (Some moment)
BeginsAt zone text None =
    IsRead zone text None ⊎ ((instant : Timestamp) × IsRead zone text (Some instant) × IsMomentAt zone instant.nanosecond None)

abbrev pub Begins : TimeZone → ℤ → ℕ → StartView → Option Moment → Type 0
Begins zone now ahead start_now result = IsMomentAt zone now result
Begins zone now ahead (start_utc moment) result = result ≡ Some (moment_at moment.0 moment.1 ahead)
Begins zone now ahead (start_text text) result = BeginsAt zone text result

abbrev pub BeginsAhead : ℤ → ℤ → StartView → Option Moment → Type 0
BeginsAhead half_hours now start result =
    (offset : Offset) × (offset.seconds ≡ pos 1800 *ℤ half_hours)
    × Begins (fixed_zone offset) now (ahead (pos 1800 *ℤ half_hours)) start result
