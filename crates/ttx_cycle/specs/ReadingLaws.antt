-- Laws of how packet files are judged.
--
--   SpeaksOfBytes           an answer about the bytes: a cycle, or why there is none
--   AreAlike                two answers that agree
--   FilesAreJudgedOnce      two answers about the same bytes agree
--   LongestIsNotTooLong     a file of 65,536 slots is not too long
use Rattle.std.specs.Prelude.{◌≡◌, ℕ, ◌*◌, ◌≤◌, List, length, Result, Ok, Err}
use Rattle.ttx_cycle.specs.Cycles.{slots_of}
use Rattle.ttx_cycle.specs.Reading.{Judged}
use Rattle.ttx_cycle.specs.declared.cycles.Cycle.{Cycle}
use Rattle.ttx_cycle.specs.declared.faults.CycleFault.{CycleFault}
use Rattle.ttx_cycle.specs.declared.faults.CycleFault.TheVariants.{Read, TooLong, NoMemory}

-- neither a device fault nor a failed allocation
abbrev pub SpeaksOfBytes : Result Cycle CycleFault → Type 0
SpeaksOfBytes (Err Read) = ⊥
SpeaksOfBytes (Err NoMemory) = ⊥
SpeaksOfBytes _ = Unit {0}

abbrev pub AreAlike : Result Cycle CycleFault → Result Cycle CycleFault → Type 0
AreAlike (Ok a) (Ok b) = slots_of a ≡ slots_of b
AreAlike (Err a) (Err b) = a ≡ b
AreAlike _ _ = ⊥

abbrev pub FilesAreJudgedOnce : Type 0
FilesAreJudgedOnce = (bytes : List ℕ) (a b : Result Cycle CycleFault) →
    SpeaksOfBytes a → SpeaksOfBytes b → Judged bytes a → Judged bytes b → AreAlike a b

abbrev pub LongestIsNotTooLong : Type 0
LongestIsNotTooLong = (bytes : List ℕ) → length bytes ≤ 65536 * 42 → Judged bytes (Err TooLong) → ⊥
