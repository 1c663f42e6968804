-- The objects of what is told of an author's text.
use Rattle.std.proofs.Common.{◌≡◌, ℕ, Bool, List, ◌++◌, sym}
use Rattle.toml.specs.Data.{Members}
use Rattle.ttx_desk.specs.Services.{mistakes}
use Rattle.ttx_mistakes.specs.LongLines.{Placed}
use Rattle.ttx_mistakes.specs.LongReports.{pages_in}
use Rattle.ttx_author_files.specs.AuthorNotes.{author_placed}
use Rattle.ttx_author_files.specs.AuthorReports.{ArePlaced}
use Rattle.ttx_mistake_records.specs.AuthorRecords.{IsRecordFor}
use Rattle.ttx_mistake_records.specs.Records.{IsRecordOf}

pub record_for : (file text bytes : List ℕ) (strict : Bool) (author : Members) (pages : ℕ) (told found : List Placed) (out : List ℕ) (code : ℕ)
    → ArePlaced text author (mistakes author) told → found ≡ told ++ author_placed text author → pages ≡ pages_in author → bytes ≡ text
    → IsRecordOf strict file bytes pages found out code → IsRecordFor file text strict author out code
record_for file text bytes strict author pages told found out code each behind count same is = record {
  told = told;
  each = each;
  is = rw (sym behind, sym count, sym same) is;
}
