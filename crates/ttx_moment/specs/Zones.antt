-- Clocks that show the time of a zone.
--
--   instant_after           the instant so many seconds after a moment, in nanoseconds since 1970-01-01
--   by_offset               a moment as a clock at an offset shows it, in page headers and in packets 8/30
--   zone_time               the moment so many seconds after a start, by the rules of a zone
use Rattle.std.specs.Prelude.{ℕ, ◌+◌, ℤ, pos, ◌+ℤ◌, ◌-ℤ◌, ◌*ℤ◌, Some}
use Rattle.jiff.specs.Types.{TimeZone}
use Rattle.jiff.specs.Words.{offset_at}
use Rattle.ttx_send.specs.Times.{Moment, offset_of, seconds_later}
use Rattle.ttx_moment.specs.Instants.{ahead}

-- 1970-01-01 is MJD 40,587; there are no leap seconds
abbrev pub instant_after : Moment → ℕ → ℤ
instant_after start seconds =
    ((pos start.mjd -ℤ pos 40587) *ℤ pos 86400 +ℤ pos (start.second + seconds)) *ℤ pos 1000000000

abbrev pub by_offset : Moment → ℤ → Moment
by_offset t offset = record t { ahead = ahead offset; offset = Some (offset_of offset) }

-- the rules in force at this second
abbrev pub zone_time : TimeZone → Moment → ℕ → Moment
zone_time zone start seconds = by_offset (seconds_later start seconds) (offset_at zone (instant_after start seconds))
