-- Where a slot of a run is.
--
--   slot_of_run             the slot of the cycle that slot n of a run is
--   time_text               fields as seconds
--   place_text              a slot of the cycle and its field, counted from 0
--   moment_text             a slot of a run, and the seconds since the receiver was tuned
use Rattle.std.specs.Prelude.{ℕ, ◌+◌, ◌*◌, ◌/◌, ◌%◌, List, ◌++◌, codes}
use Rattle.std.specs.Fmt.{decimal}
use Rattle.ttx_wait.specs.WaitLines.{seconds_text}

abbrev pub slot_of_run : ℕ → ℕ → ℕ → ℕ
slot_of_run period start n = (start + n) % period

unfoldable pub place_text : ℕ → ℕ → List ℕ
place_text lines slot = codes "slot " ++ decimal slot ++ codes ", field " ++ decimal (slot / lines)

unfoldable pub time_text : ℕ → List ℕ
time_text fields = seconds_text (2 * fields)

-- a field is two hundredths of a second
unfoldable pub moment_text : ℕ → ℕ → ℕ → ℕ → List ℕ
moment_text period lines start n =
    place_text lines (slot_of_run period start n) ++ codes ", " ++ time_text (n / lines) ++ codes " s after tuning"
