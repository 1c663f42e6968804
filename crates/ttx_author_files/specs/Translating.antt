-- What `compose` and `decompose` write for the bytes of a text.
--
--   IsTold                  the status, the text and the line
--   IsRefusedText           why there are none for a text that is read
--   IsNotTold               why there are none: the text is refused, or not read
--   TranslatesFile          what was written to the text's file and to the output, for each answer
use Rattle.std.specs.Prelude.{◌≡◌, ℕ, ◌<◌, ◌≤◌, List, length, ⊤, Option, Result, Ok, Err}
use Rattle.std.specs.Io.KnownBytes.{Keeps}
use Rattle.ttx_cycle.specs.Bounded.{most_bytes}
use Rattle.ttx_files.specs.Answers.{WritesBoth}
use Rattle.ttx_files.specs.declared.faults.FilesFault.{FilesFault}
use Rattle.ttx_files.specs.declared.faults.FilesFault.TheVariants.{Service, Read, TooLong, Write, NoMemory}
use Rattle.ttx_files.specs.declared.faults.TextFile.TheVariants as text
use Rattle.ttx_source.specs.declared.faults.SourceError.{SourceError}

-- `Says` is the status, the text and the line for these bytes
abbrev pub IsTold : (ℕ → List ℕ → List ℕ → Type 0) → List ℕ → ℕ → List ℕ → List ℕ → Type 0
IsTold Says bytes status text line = (length bytes ≤ most_bytes) × Says status text line

-- a fault of the service, or lack of memory
abbrev pub IsRefusedText : (SourceError → Type 0) → FilesFault → Type 0
IsRefusedText Refuses (Service error) = Refuses error
IsRefusedText Refuses NoMemory = ⊤
IsRefusedText Refuses _ = ⊥

abbrev pub IsNotTold : (SourceError → Type 0) → List ℕ → FilesFault → Type 0
IsNotTold Refuses bytes (Service error) = Refuses error
IsNotTold Refuses bytes (Read which) = which ≡ text.Service
IsNotTold Refuses bytes (TooLong which) = (which ≡ text.Service) × (most_bytes < length bytes)
IsNotTold Refuses bytes NoMemory = ⊤
IsNotTold Refuses bytes _ = ⊥

-- Ok: text and line. A write fault: the first `written` bytes of both. Otherwise nothing, and why.
abbrev pub TranslatesFile : (ℕ → List ℕ → List ℕ → Type 0) → (SourceError → Type 0) → List ℕ → Option (List ℕ) → Option (List ℕ) →
    Option (List ℕ) → Option (List ℕ) → Result ℕ FilesFault → Type 0
TranslatesFile Says Refuses bytes file_old file_new old new (Ok status) =
    (text line : List ℕ) × IsTold Says bytes status text line × WritesBoth text line file_old file_new old new (Ok status)
TranslatesFile Says Refuses bytes file_old file_new old new (Err (Write written)) =
    (status : ℕ) × (text line : List ℕ) × IsTold Says bytes status text line × WritesBoth {T = ℕ} text line file_old file_new old new (Err (Write written))
TranslatesFile Says Refuses bytes file_old file_new old new (Err fault) = IsNotTold Refuses bytes fault × Keeps file_old file_new × Keeps old new
