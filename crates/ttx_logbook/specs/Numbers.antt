-- Numbers in a log (profile).
--
--   is_number, number_in    a number below 2^32 in decimal: 1 to 10 digits without a leading zero
--   keyed_number            the number before the next such byte, after a key, and what follows
use Rattle.std.specs.Prelude.{ℕ, ◌==◌, ◌^◌, Bool, not, ◌&&◌, ◌||◌, nat_le, nat_lt, List, length, slice_index, Option, Some, None, if◌then◌else◌}
use Rattle.ttx_digits.specs.Digits.{are_digits, decimal_after}
use Rattle.ttx_logbook.specs.Cuts.{after, cut}
use Rattle.ttx_logbook.specs.Steps.{◌>>=◌}

abbrev pub is_number : List ℕ → Bool
is_number word = are_digits word && nat_le 1 (length word) && nat_le (length word) 10 && (length word == 1 || not (slice_index word 0 == 48))
    && nat_lt (decimal_after 0 word) (2 ^ 32)

unfoldable pub number_in : List ℕ → Option ℕ
number_in word = if is_number word then Some (decimal_after 0 word) else None

unfoldable pub keyed_number : List ℕ → ℕ → List ℕ → Option (ℕ × List ℕ)
keyed_number key mark text = do
  rest ← after key text
  parts ← cut mark rest
  number ← number_in parts.0
  Some (number, parts.1)
