-- Moments by a zone's clock.
--
--   IsClockTime, IsNoClockTime      a date of at most five digits, and a second of a day; other numbers
--   IsShown                 what a clock shows at the second of the day with the Modified Julian Date
--   IsMomentOf, IsNoMomentOf        the moment at which the clock of a zone shows a datetime; there is none on the air
--   IsNamed                 the moment that a Modified Julian Date and a second name by the clock of a zone
use Rattle.std.specs.Prelude.{◌≡◌, ◌⊎◌, ℕ, ◌<◌, pos, ◌+ℤ◌, ◌-ℤ◌, ◌*ℤ◌, Option, Some, None}
use Rattle.jiff.specs.Types.{DateTime, TimeZone}
use Rattle.jiff.specs.Words.{civil_nanos, offset_at}
use Rattle.ttx_send.specs.Times.{Moment}
use Rattle.ttx_moment.specs.Instants.{moment_of_instant, IsOnTheAir}
use Rattle.ttx_moment.specs.Texts.{zone_instant}

pub record IsClockTime (mjd second : ℕ) : Type 0 where
  pub date : mjd < 100000
  pub time : second < 86400

abbrev pub IsNoClockTime : ℕ → ℕ → Type 0
IsNoClockTime mjd second = IsClockTime mjd second → ⊥

-- 1970-01-01 is MJD 40,587; no two datetimes have as many nanoseconds since then
pub record IsShown (mjd second : ℕ) (dt : DateTime) : Type 0 where
  pub in_range : IsClockTime mjd second
  pub nanos : civil_nanos dt ≡ ((pos mjd -ℤ pos 40587) *ℤ pos 86400 +ℤ pos second) *ℤ pos 1000000000

abbrev pub IsMomentOf : TimeZone → DateTime → Moment → Type 0
IsMomentOf zone dt moment = IsOnTheAir (zone_instant zone dt) (offset_at zone (zone_instant zone dt))
    × (moment ≡ moment_of_instant (zone_instant zone dt) (offset_at zone (zone_instant zone dt)))

abbrev pub IsNoMomentOf : TimeZone → DateTime → Type 0
IsNoMomentOf zone dt = IsOnTheAir (zone_instant zone dt) (offset_at zone (zone_instant zone dt)) → ⊥

abbrev pub IsNamed : TimeZone → ℕ → ℕ → Option Moment → Type 0
IsNamed zone mjd second (Some moment) = (dt : DateTime) × IsShown mjd second dt × IsMomentOf zone dt moment
IsNamed zone mjd second None = IsNoClockTime mjd second ⊎ ((dt : DateTime) × IsShown mjd second dt × IsNoMomentOf zone dt)
