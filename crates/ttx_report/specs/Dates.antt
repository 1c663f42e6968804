-- Dates of reports.
--
--   year_in                 the year in the first four digits of a text
--   IsDay                   there is a day with this year, month and number
--   IsDateText              a text is a day of the calendar, as YYYY-MM-DD
use Rattle.std.specs.Prelude.{◌≡◌, ℕ, pos, List, length, slice_index, Option, Some, None}
use Rattle.jiff.specs.Words.{IsDate}
use Rattle.ttx_digits.specs.Digits.{joined_digits, two_decimals}

unfoldable pub year_in : List ℕ → Option ℕ
year_in text = joined_digits 100 (two_decimals text 0) (two_decimals text 2)

abbrev pub IsDay : Option ℕ → Option ℕ → Option ℕ → Type 0
IsDay (Some year) (Some month) (Some day) = IsDate (pos year) (pos month) (pos day)
IsDay (Some year) (Some month) None = ⊥
IsDay (Some year) None day = ⊥
IsDay None month day = ⊥

-- with a hyphen (2D) at bytes 4 and 7
abbrev pub IsDateText : List ℕ → Type 0
IsDateText text =
    (length text ≡ 10) × (slice_index text 4 ≡ 0x2D) × (slice_index text 7 ≡ 0x2D)
    × IsDay (year_in text) (two_decimals text 5) (two_decimals text 8)
