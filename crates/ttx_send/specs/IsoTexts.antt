-- Moments as ISO texts (ISO 8601): the date and the time that the clock shows, and its offset.
--
--   Date, first_date, is_leap, month_days, next_day         days of the Gregorian calendar
--   date_of                 the date of a Modified Julian Date, counted day by day
--   is_behind, local_day    whether the clock is behind UTC; the Modified Julian Date that it shows
--   date_text, offset_text, iso_text        the texts
use Rattle.std.specs.Prelude.{ℕ, zero, suc, ◌+◌, ◌-◌, ◌/◌, ◌%◌, ◌==◌, nat_lt, Bool, not, ◌&&◌, ◌||◌, if◌then◌else◌, List, [], ◌∷◌, ◌++◌, Option, Some, None}
use Rattle.ttx_send.specs.Times.{LocalOffset, Moment, clock_text}

pub record Date : Type 0 where
  pub year : ℕ
  pub month : ℕ
  pub day : ℕ

abbrev pub date_at : ℕ → ℕ → ℕ → Date
date_at year month day = record { year = year; month = month; day = day }

-- MJD 0
abbrev pub first_date : Date
first_date = date_at 1858 11 17

abbrev pub is_leap : ℕ → Bool
is_leap year = (year % 4 == 0) && (not (year % 100 == 0) || (year % 400 == 0))

abbrev pub month_days : ℕ → ℕ → ℕ
month_days year month =
    if month == 2 then (if is_leap year then 29 else 28)
    else if (month == 4) || (month == 6) || (month == 9) || (month == 11) then 30 else 31

abbrev pub next_day : Date → Date
next_day d =
    if nat_lt d.day (month_days d.year d.month) then date_at d.year d.month (d.day + 1)
    else if nat_lt d.month 12 then date_at d.year (d.month + 1) 1 else date_at (d.year + 1) 1 1

unfoldable pub date_of : ℕ → Date
date_of zero = first_date
date_of (suc mjd) = next_day (date_of mjd)

-- as packets 8/30 show it; or more than 13 hours ahead within a day (profile)
abbrev pub is_behind : Moment → Option LocalOffset → Bool
is_behind t None = nat_lt 46800 t.ahead
is_behind t (Some o) = o.west

abbrev pub local_day : Moment → ℕ
local_day t = let day = t.mjd + (t.second + t.ahead) / 86400 in if is_behind t t.offset then day - 1 else day

abbrev pub two_digits : ℕ → List ℕ
two_digits n = (48 + n / 10) ∷ (48 + n % 10) ∷ []

-- YYYY-MM-DD
abbrev pub date_text : Date → List ℕ
date_text d = two_digits (d.year / 100) ++ two_digits (d.year % 100) ++ 45 ∷ two_digits d.month ++ 45 ∷ two_digits d.day

-- HH:MM
abbrev pub hours_and_minutes : ℕ → List ℕ
hours_and_minutes seconds = two_digits (seconds / 3600) ++ 58 ∷ two_digits (seconds / 60 % 60)

-- the offset to the minute
abbrev pub offset_text : Moment → List ℕ
offset_text t = if is_behind t t.offset then 45 ∷ hours_and_minutes (86400 - t.ahead) else 43 ∷ hours_and_minutes t.ahead

-- YYYY-MM-DDTHH:MM:SS+HH:MM
abbrev pub iso_text : Moment → List ℕ
iso_text t = date_text (date_of (local_day t)) ++ 84 ∷ clock_text ((t.second + t.ahead) % 86400) ++ offset_text t
