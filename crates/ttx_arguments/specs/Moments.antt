-- Moments on the command line: MJD/HHMMSS, the Modified Julian Date and the time in UTC (profile).
--
--   below                   a number below a limit
--   date_of, second_of      five digits of the date; the second of the day, of six digits
--   is_dated, moment_of     a text of this form; the date and the second that it names
use Rattle.std.specs.Prelude.{ℕ, Bool, List, Option, Some, None, ◌&&◌, ◌==◌, nat_lt, length, slice_index, if◌then◌else◌}
use Rattle.ttx_digits.specs.Digits.{decimal_in, two_decimals, joined_digits}

abbrev pub below : ℕ → Option ℕ → Option ℕ
below limit None = None
below limit (Some number) = if nat_lt number limit then Some number else None

abbrev pub date_of : List ℕ → Option ℕ
date_of text = joined_digits 10000 (decimal_in (slice_index text 0)) (joined_digits 100 (two_decimals text 1) (two_decimals text 3))

-- hours below 24, minutes and seconds below 60
abbrev pub second_of : List ℕ → Option ℕ
second_of text = joined_digits 3600 (below 24 (two_decimals text 6)) (joined_digits 60 (below 60 (two_decimals text 8)) (below 60
    (two_decimals text 10)))

abbrev pub moment_when : Option ℕ → Option ℕ → Option (ℕ × ℕ)
moment_when None second = None
moment_when (Some date) None = None
moment_when (Some date) (Some second) = Some (date, second)

-- twelve characters, of which the sixth is a slash (2F)
abbrev pub is_dated : List ℕ → Bool
is_dated text = (length text == 12) && (slice_index text 5 == 47)

unfoldable pub moment_of : List ℕ → Option (ℕ × ℕ)
moment_of text = if is_dated text then moment_when (date_of text) (second_of text) else None
