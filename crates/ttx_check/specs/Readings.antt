-- A service text that is read, or refused in words.
--
--   IsReadingOf             a service, or the line about its first fault
--   IsReading               that of a text
use Rattle.std.specs.Prelude.{◌≡◌, ℕ, List, Result, Ok, Err, string_bytes}
use Rattle.ttx_source.specs.Services.{ServiceFields, read_bytes}
use Rattle.ttx_source.specs.Values.{Fault}
use Rattle.ttx_check.specs.Refusals.{IsErrorLine}
use Rattle.ttx_check.specs.declared.readings.Reading.{Reading}
use Rattle.ttx_check.specs.declared.readings.Reading.TheVariants.{Read, Refused}

abbrev pub IsReadingOf : List ℕ → Result ServiceFields (Fault × ℕ) → Reading → Type 0
IsReadingOf bytes (Ok fields) (Read service) = fields ≡ service
IsReadingOf bytes (Ok fields) (Refused line) = ⊥
IsReadingOf bytes (Err fault) (Read service) = ⊥
IsReadingOf bytes (Err fault) (Refused line) = IsErrorLine bytes fault.0 fault.1 (string_bytes line)

abbrev pub IsReading : List ℕ → Reading → Type 0
IsReading bytes reading = IsReadingOf bytes (read_bytes bytes) reading
