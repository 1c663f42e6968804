-- Seconds on the command line: a whole number, or one with a point and one or two decimals, as in 20, 1.5 and 1.28 (profile).
--
--   decimals_of             the hundredths in one or two decimals
--   part_of, hundredths_of  those behind the point; the hundredths of a second that a text is
--   whole_fields, fields_of the fields of 0.02 s in so many hundredths, and in the seconds that a text is
use Rattle.std.specs.Prelude.{ℕ, ◌*◌, ◌/◌, Bool, ◌==◌, ◌&&◌, nat_lt, nat_le, List, length, slice_index, if◌then◌else◌}
use Rattle.std.specs.Prelude.{Option, Some, None, option_map, option_and_then}
use Rattle.std.specs.List.{position_or_len, before_first, after_first}
use Rattle.ttx_digits.specs.Digits.{decimal_in, two_decimals, joined_digits, number_in_word}

abbrev pub decimals_of : List ℕ → Option ℕ
decimals_of text =
    if length text == 1 then option_map (λ n. 10 * n) (decimal_in (slice_index text 0))
    else if length text == 2 then two_decimals text 0
    else None

abbrev pub is_point : ℕ → Bool
is_point b = b == 46

-- without a point it has none
abbrev pub part_of : List ℕ → Option ℕ
part_of text = if nat_lt (position_or_len is_point text) (length text) then decimals_of (after_first is_point text) else Some 0

unfoldable pub hundredths_of : List ℕ → Option ℕ
hundredths_of text = joined_digits 100 (number_in_word (before_first is_point text)) (part_of text)

-- 0.02 to 20000 seconds, 50 fields each; what is left of a field does not count
abbrev pub whole_fields : ℕ → Option ℕ
whole_fields hundredths = if nat_le 2 hundredths && nat_le hundredths 2000000 then Some (hundredths / 2) else None

unfoldable pub fields_of : List ℕ → Option ℕ
fields_of text = option_and_then whole_fields (hundredths_of text)
