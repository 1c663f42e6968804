-- What `check --json` writes for the text of a service or of an author.
--
--   IsRecord, Checks        the objects of a text, by its first key; what was written for each answer
use Rattle.std.specs.Prelude.{ℕ, Bool, true, false, List, Option, Result}
use Rattle.ttx_check.specs.Checking as check
use Rattle.ttx_files.specs.declared.faults.FilesFault.{FilesFault}
use Rattle.ttx_author_files.specs.AuthorTexts.{is_author_text}
use Rattle.ttx_mistake_records.specs.AuthorRecords.{IsAuthorRecord}
use Rattle.ttx_mistake_records.specs.ServiceRecords.{IsServiceRecord}

abbrev pub IsRecordBy : Bool → List ℕ → Bool → List ℕ → List ℕ → ℕ → Type 0
IsRecordBy true file strict bytes text code = IsAuthorRecord file bytes strict text code
IsRecordBy false file strict bytes text code = IsServiceRecord file bytes strict text code

abbrev pub IsRecord : List ℕ → Bool → List ℕ → List ℕ → ℕ → Type 0
IsRecord file strict bytes text code = IsRecordBy (is_author_text bytes) file strict bytes text code

abbrev pub Checks : List ℕ → Bool → List ℕ → Option (List ℕ) → Option (List ℕ) → Result ℕ FilesFault → Type 0
Checks file strict = check.Checks (IsRecord file strict)
