-- How the bytes of a packet file are judged.
--
--   Judged         the answer for a whole file
--   AnswersNext    the answer when the next slot is asked for
--   CountsRead     a read fault is returned only if one was counted
--   has_slot       whether an answer is a slot
use Rattle.std.specs.Prelude.{◌≡◌, ℕ, ◌%◌, ◌<◌, ◌≤◌, List, [], length, ⊤, Bool, true, false, Option, IfSome, Result, Ok, Err}
use Rattle.std.specs.Io.KnownBytes.{Consumes, IsAtEnd}
use Rattle.ttx_cycle.specs.Counts.{HasRisen}
use Rattle.ttx_cycle.specs.Cycles.{slots_of}
use Rattle.ttx_cycle.specs.Files.{file_of}
use Rattle.ttx_cycle.specs.declared.cycles.Cycle.{Cycle}
use Rattle.ttx_cycle.specs.declared.faults.CycleFault.{CycleFault}
use Rattle.ttx_cycle.specs.declared.faults.CycleFault.TheVariants.{Read, Truncated, Empty, TooLong, NoMemory}

-- The answer for these bytes. Of the cases that depend on the bytes, exactly one holds.
abbrev pub Judged : List ℕ → Result Cycle CycleFault → Type 0
Judged bytes (Ok cycle) = bytes ≡ file_of (slots_of cycle)
Judged bytes (Err Read) = ⊤
Judged bytes (Err (Truncated rest)) = (length bytes ≤ 2752512) × (length bytes % 42 ≡ rest) × (0 < rest)
Judged bytes (Err Empty) = bytes ≡ []
Judged bytes (Err TooLong) = 2752512 < length bytes
Judged bytes (Err NoMemory) = ⊤

-- The answer after `given` slots, with the bytes left before the call (`old`) and after it (`new`).
abbrev pub AnswersNext : ℕ → Option (List ℕ) → Option (List ℕ) → List ℕ → Result Bool CycleFault → Type 0
AnswersNext given old new slot (Ok true) = (given < 65536) × Consumes old new slot
AnswersNext given old new slot (Ok false) = (0 < given) × IsAtEnd old
AnswersNext given old new slot (Err Read) = ⊤
AnswersNext given old new slot (Err (Truncated rest)) = (given < 65536) × (0 < rest) × (rest < 42) × IfSome old (λ bytes. length bytes ≡ rest)
AnswersNext given old new slot (Err Empty) = (given ≡ 0) × IsAtEnd old
AnswersNext given old new slot (Err TooLong) = (given ≡ 65536) × IfSome old (λ bytes. 0 < length bytes)
AnswersNext given old new slot (Err NoMemory) = ⊥

-- how the count of faults changes with each answer
abbrev pub CountsRead : {T : Type 0} → Result T CycleFault → ℕ → ℕ → Type 0
CountsRead (Ok _) old new = new ≡ old
CountsRead (Err Read) old new = HasRisen old new
CountsRead (Err (Truncated rest)) old new = new ≡ old
CountsRead (Err Empty) old new = new ≡ old
CountsRead (Err TooLong) old new = new ≡ old
CountsRead (Err NoMemory) old new = new ≡ old

abbrev pub has_slot : Result Bool CycleFault → Bool
has_slot (Ok b) = b
has_slot (Err _) = false
