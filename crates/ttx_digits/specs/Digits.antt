-- Digits in texts (profile): decimal, and hexadecimal, 0 to 9 and A to F. Texts are lists of bytes.
--
--   hex_digit, hex_byte               the digit of a number below 16, and the two digits of a byte
--   are_digits, is_number, decimal_after, number_in_word      a decimal number
--   decimal_in, two_decimals          a decimal digit, and the number in two of them from one position on
--   joined_digits                     the number with this higher and this lower part
--   is_hex, hex_value, hex_pair, hex_in      a hexadecimal digit, and two of them
--   two_digits, four_digits           the number in two or four hexadecimal digits from one position on
use Rattle.std.specs.Prelude.{ℕ, ◌+◌, ◌-◌, ◌*◌, ◌/◌, ◌%◌, Bool, not, ◌&&◌, ◌||◌, ◌==◌, nat_lt, nat_le, List, [], ◌∷◌, length, slice_index}
use Rattle.std.specs.Prelude.{Option, Some, None, if◌then◌else◌}
use Rattle.std.specs.List.{list_all}

-- the digit of a number below 16
abbrev pub hex_digit : ℕ → ℕ
hex_digit n = if nat_lt n 10 then 48 + n else 55 + n

-- the two hexadecimal digits of a byte, the high one first
abbrev pub hex_byte : ℕ → List ℕ
hex_byte b = hex_digit (b / 16) ∷ hex_digit (b % 16) ∷ []

abbrev pub is_between : ℕ → ℕ → ℕ → Bool
is_between low high b = nat_le low b && nat_le b high

abbrev pub are_digits : List ℕ → Bool
are_digits word = list_all (is_between 48 57) word

-- 1 to 7 digits without a leading zero
abbrev pub is_number : List ℕ → Bool
is_number word = are_digits word && nat_le 1 (length word) && nat_le (length word) 7 && (length word == 1 || not (slice_index word 0 == 48))

abbrev pub decimal_after : ℕ → List ℕ → ℕ
decimal_after n [] = n
decimal_after n (digit ∷ digits) = decimal_after (10 * n + (digit - 48)) digits

abbrev pub number_in_word : List ℕ → Option ℕ
number_in_word word = if is_number word then Some (decimal_after 0 word) else None

abbrev pub joined_digits : ℕ → Option ℕ → Option ℕ → Option ℕ
joined_digits weight None low = None
joined_digits weight (Some high) None = None
joined_digits weight (Some high) (Some low) = Some (weight * high + low)

unfoldable pub decimal_in : ℕ → Option ℕ
decimal_in b = if is_between 48 57 b then Some (b - 48) else None

-- the higher digit first
unfoldable pub two_decimals : List ℕ → ℕ → Option ℕ
two_decimals text at = joined_digits 10 (decimal_in (slice_index text at)) (decimal_in (slice_index text (at + 1)))

abbrev pub is_hex : ℕ → Bool
is_hex b = is_between 48 57 b || is_between 65 70 b

abbrev pub hex_value : ℕ → ℕ
hex_value b = if nat_le b 57 then b - 48 else b - 55

abbrev pub hex_pair : List ℕ → ℕ → ℕ
hex_pair word i = 16 * hex_value (slice_index word i) + hex_value (slice_index word (i + 1))

unfoldable pub hex_in : ℕ → Option ℕ
hex_in b = if is_hex b then Some (hex_value b) else None

-- the higher digit first
unfoldable pub two_digits : List ℕ → ℕ → Option ℕ
two_digits text at = joined_digits 16 (hex_in (slice_index text at)) (hex_in (slice_index text (at + 1)))

unfoldable pub four_digits : List ℕ → ℕ → Option ℕ
four_digits text at = joined_digits 256 (two_digits text at) (two_digits text (at + 2))
