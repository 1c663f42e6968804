-- Instants on the air.
--
--   ahead                   how many seconds a clock at an offset is ahead of UTC, within a day
--   moment_of_instant       the Modified Julian Date and the second of its day of an instant, in nanoseconds since 1970-01-01, with a clock at an offset
--   IsOnTheAir              not before 1970, and of a date with at most five digits
use Rattle.std.specs.Prelude.{ℕ, ◌+◌, ◌/◌, ◌%◌, ℤ, pos, ◌+ℤ◌, ◌≤ℤ◌, nat_abs}
use Rattle.ttx_send.specs.Times.{Moment, IsMoment, moment_at}

-- an offset is above -48 hours
abbrev pub ahead : ℤ → ℕ
ahead offset = nat_abs (offset +ℤ pos 172800) % 86400

-- 1970-01-01 is MJD 40,587; there are no leap seconds
abbrev pub moment_of_instant : ℤ → ℤ → Moment
moment_of_instant nanos offset =
    moment_at (40587 + nat_abs nanos / 1000000000 / 86400) (nat_abs nanos / 1000000000 % 86400) (ahead offset)

abbrev pub IsOnTheAir : ℤ → ℤ → Type 0
IsOnTheAir nanos offset = (pos 0 ≤ℤ nanos) × IsMoment (moment_of_instant nanos offset)
