-- What `check` writes for a text.
--
--   IsCheckFault            what keeps a report from being written
--   Told                    the report on a text that is not too long
--   Checks                  what was written for each answer
use Rattle.std.specs.Prelude.{ℕ, ◌≡◌, ◌<◌, ◌≤◌, List, length, take, ⊤, Option, Result, Ok, Err}
use Rattle.std.specs.Io.KnownBytes.{Appends, Keeps}
use Rattle.ttx_cycle.specs.Bounded.{most_bytes}
use Rattle.ttx_files.specs.Texts.{IsUnread}
use Rattle.ttx_files.specs.declared.faults.FilesFault.{FilesFault}
use Rattle.ttx_files.specs.declared.faults.FilesFault.TheVariants.{Read, TooLong, Write, NoMemory}
use Rattle.ttx_files.specs.declared.faults.TextFile.TheVariants as text

-- the text is not read, or the report not written
abbrev pub IsCheckFault : FilesFault → Type 0
IsCheckFault (Write written) = ⊤
IsCheckFault fault = IsUnread text.Service fault

-- `Says` is the report on the bytes of a text, and its status
abbrev pub Told : (List ℕ → List ℕ → ℕ → Type 0) → List ℕ → List ℕ → ℕ → Type 0
Told Says bytes text status = (length bytes ≤ most_bytes) × Says bytes text status

-- Ok: the report went out. After a failed write: its first `written` bytes. Otherwise nothing.
abbrev pub Checks : (List ℕ → List ℕ → ℕ → Type 0) → List ℕ → Option (List ℕ) → Option (List ℕ) → Result ℕ FilesFault → Type 0
Checks Says bytes old new (Ok status) = (text : List ℕ) × Told Says bytes text status × Appends old new text
Checks Says bytes old new (Err (Write written)) =
    (text : List ℕ) × (status : ℕ) × Told Says bytes text status × (written < length text) × Appends old new (take written text)
Checks Says bytes old new (Err (TooLong which)) = (which ≡ text.Service) × (most_bytes < length bytes) × Keeps old new
Checks Says bytes old new (Err (Read which)) = (which ≡ text.Service) × Keeps old new
Checks Says bytes old new (Err NoMemory) = Keeps old new
Checks Says bytes old new (Err _) = ⊥
