-- A mistake more, at its place; and the report on an author's text.
use Rattle.std.proofs.Common.{◌≡◌, ℕ, Bool, List, [], ◌∷◌, ◌++◌, refl, ap, sym}
use Rattle.toml.specs.Data.{Members}
use Rattle.ttx_desk.specs.Services.{mistakes}
use Rattle.ttx_desk.specs.declared.mistakes.Mistake.{Mistake}
use Rattle.ttx_mistakes.specs.LongLines.{Placed}
use Rattle.ttx_mistakes.specs.LongReports.{IsReportOf, pages_in}
use Rattle.ttx_author_files.specs.AuthorNotes.{author_placed}
use Rattle.ttx_author_files.specs.AuthorReports.{IsPlacedMistake, ArePlaced, IsReportFor}

pub one_more : (text : List ℕ) (author : Members) (told : List Mistake) (mistake : Mistake) (found : List Placed) (p : Placed)
    → ArePlaced text author told found → IsPlacedMistake text author mistake p → ArePlaced text author (told ++ mistake ∷ []) (found ++ p ∷ [])
one_more text author [] mistake found p are is = (p, [], is, refl, ap (λ f. f ++ p ∷ []) are)
one_more text author (first ∷ told) mistake found p are is =
    (are.0, are.1 ++ p ∷ [], are.2, one_more text author told mistake are.1 p are.3 is, ap (λ f. f ++ p ∷ []) are.4)

pub report_for : (long strict : Bool) (file text bytes : List ℕ) (author : Members) (pages : ℕ) (told found : List Placed) (report : List ℕ) (code : ℕ)
    → ArePlaced text author (mistakes author) told → found ≡ told ++ author_placed text author → pages ≡ pages_in author → bytes ≡ text
    → IsReportOf long strict file bytes pages found report code → IsReportFor long strict file text author report code
report_for long strict file text bytes author pages told found report code each behind count same is = record {
  told = told;
  each = each;
  is = rw (sym behind, sym count, sym same) is;
}
