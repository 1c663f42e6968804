-- The objects of an author's text: the mistakes for which it is not composed, then the errors and warnings of `check`.
--
--   IsRecordFor             those of a text with this table, and its status
--   IsAuthorRecord          those of a text, and its status
use Rattle.std.specs.Prelude.{◌≡◌, ℕ, Bool, List, ◌++◌, Some}
use Rattle.toml.specs.Data.{Members}
use Rattle.ttx_desk.specs.Composing.{author_in}
use Rattle.ttx_desk.specs.Services.{mistakes}
use Rattle.ttx_mistakes.specs.LongLines.{Placed}
use Rattle.ttx_mistakes.specs.LongReports.{pages_in}
use Rattle.ttx_author_files.specs.AuthorNotes.{author_placed}
use Rattle.ttx_author_files.specs.AuthorReports.{ArePlaced}
use Rattle.ttx_mistake_records.specs.Records.{IsRecordOf}

pub record IsRecordFor (file bytes : List ℕ) (strict : Bool) (author : Members) (text : List ℕ) (code : ℕ) : Type 0 where
  pub told : List Placed
  pub each : ArePlaced bytes author (mistakes author) told
  pub is : IsRecordOf strict file bytes (pages_in author) (told ++ author_placed bytes author) text code

abbrev pub IsAuthorRecord : List ℕ → List ℕ → Bool → List ℕ → ℕ → Type 0
IsAuthorRecord file bytes strict text code =
    (author : Members) × (author_in bytes ≡ Some author) × IsRecordFor file bytes strict author text code
