-- Numbers of options.
--
--   is_numeral, numeral     decimal digits; the number below 2^32 that a text is, after an optional plus
use Rattle.std.specs.Prelude.{ℕ, Bool, ◌&&◌, nat_lt, List, length, Option, Some, None, if◌then◌else◌}
use Rattle.std.specs.List.{list_all}
use Rattle.std.specs.Char.{digit_value}
use Rattle.std.specs.Str.Parse.{digits_value, without_leading_plus}
use Rattle.clap.specs.Words.{Text}

-- decimal digits, after an optional plus
abbrev pub is_numeral : List ℕ → Bool
is_numeral digits = nat_lt 0 (length digits) && list_all (λ d. nat_lt (digit_value d) 10) digits

-- the number below 2^32 that a text is
abbrev pub numeral : Text → Option ℕ
numeral text =
    let digits = without_leading_plus text in
    if is_numeral digits && nat_lt (digits_value 10 digits) 4294967296 then Some (digits_value 10 digits) else None
