-- What goes out for each answer.
--
--   WritesLine              all the bytes of a line went out, or exactly the first `written`
--   WritesBoth              a file and then a line
--   WritesAnswer            the line of an answer went out, or its first `written` bytes; otherwise nothing, and why the files are refused
--   IsUntouched, is_write   after any fault except that of a write, the writers are unchanged, whatever the readers return
use Rattle.std.specs.Prelude.{◌≡◌, ℕ, ◌-◌, ◌<◌, Bool, true, false, List, ◌++◌, length, take, ⊤, Option, Result, Ok, Err}
use Rattle.std.specs.Io.KnownBytes.{Appends, Keeps}
use Rattle.ttx_files.specs.declared.faults.FilesFault.{FilesFault}
use Rattle.ttx_files.specs.declared.faults.FilesFault.TheVariants.{Write}

abbrev pub WritesLine : {T : Type 0} → List ℕ → Option (List ℕ) → Option (List ℕ) → Result T FilesFault → Type 0
WritesLine line old new (Ok _) = Appends old new line
WritesLine line old new (Err (Write written)) = (written < length line) × Appends old new (take written line)
WritesLine line old new (Err _) = ⊥

-- Ok: the bytes of a file went out, and those of a line. A write fault: the first `written` bytes of both, the file's before the line's.
abbrev pub WritesBoth : {T : Type 0} → List ℕ → List ℕ → Option (List ℕ) → Option (List ℕ) → Option (List ℕ) → Option (List ℕ) →
    Result T FilesFault → Type 0
WritesBoth bytes line file_old file_new old new (Ok _) = Appends file_old file_new bytes × Appends old new line
WritesBoth bytes line file_old file_new old new (Err (Write written)) =
    (written < length (bytes ++ line)) × Appends file_old file_new (take written bytes) × Appends old new (take (written - length bytes) line)
WritesBoth bytes line file_old file_new old new (Err _) = ⊥

-- Ok: the line of the answer went out. A write fault: its first `written` bytes. Otherwise nothing, and why the files are refused.
abbrev pub WritesAnswer : {V : Type 0} → (V → List ℕ → Type 0) → (FilesFault → Type 0) → Option (List ℕ) → Option (List ℕ) →
    Result V FilesFault → Type 0
WritesAnswer Answers Refused old new (Ok verdict) = (line : List ℕ) × Answers verdict line × Appends old new line
WritesAnswer {V} Answers Refused old new (Err (Write written)) =
    (line : List ℕ) × (verdict : V) × Answers verdict line × (written < length line) × Appends old new (take written line)
WritesAnswer Answers Refused old new (Err fault) = Refused fault × Keeps old new

-- Ok and the faults of writes say nothing; after any other fault a writer is unchanged.
abbrev pub IsUntouched : {T F W : Type 0} → (F → Bool) → Result T F → W → W → Type 0
IsUntouched is_write (Ok answer) old new = ⊤
IsUntouched is_write (Err fault) old new = is_write fault ≡ false → new ≡ old

abbrev pub is_write : FilesFault → Bool
is_write (Write written) = true
is_write _ = false
