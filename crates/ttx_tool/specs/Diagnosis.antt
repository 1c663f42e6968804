-- What is written of bytes that are no packets of 42 bytes, behind the lines of a command.
--
--   diagnosed_text, diagnosed_status        a line and the status 1 if they are not recognised as such packets; nothing otherwise
--   Diagnoses               what was written for each answer
use Rattle.std.specs.Prelude.{◌≡◌, ℕ, ◌<◌, List, [], length, take, Option, Some, None, Result, Ok, Err}
use Rattle.std.specs.Io.KnownBytes.{Appends, Keeps}
use Rattle.ttx_files.specs.declared.faults.FilesFault.TheVariants.{Write, NoMemory}
use Rattle.ttx_recognition.specs.Lines.{unlike_line}
use Rattle.ttx_recognition.specs.Recognition.{judged, IsRecognised}
use Rattle.ttx_recognition.specs.declared.form.Unlike.{Unlike}
use Rattle.ttx_faults.specs.declared.faults.ToolFault.{ToolFault}
use Rattle.ttx_faults.specs.declared.faults.ToolFault.TheVariants.{Files}

abbrev pub diagnosed_text : Option Unlike → List ℕ
diagnosed_text None = []
diagnosed_text (Some unlike) = unlike_line unlike

abbrev pub diagnosed_status : Option Unlike → ℕ → ℕ
diagnosed_status None status = status
diagnosed_status (Some unlike) status = 1

-- Ok: the text went out. A write fault: its first `written` bytes.
abbrev pub Diagnoses : List ℕ → ℕ → Option (List ℕ) → Option (List ℕ) → Result ℕ ToolFault → Type 0
Diagnoses bytes status old new (Ok answer) =
    (found : Option Unlike) × IsRecognised (judged bytes) found × (answer ≡ diagnosed_status found status) × Appends old new (diagnosed_text found)
Diagnoses bytes status old new (Err (Files (Write written))) =
    (found : Option Unlike) × IsRecognised (judged bytes) found × (written < length (diagnosed_text found))
    × Appends old new (take written (diagnosed_text found))
Diagnoses bytes status old new (Err (Files NoMemory)) = Keeps old new
Diagnoses bytes status old new (Err _) = ⊥
