-- The lines of a verdict on a feed by rows (profile).
--
--   yes_text                the yes line
--   row_way_text            how a slot breaks the rule
--   row_verdict_text        the text of a verdict
--   IsRowTold               the verdict on a feed, and its text
use Rattle.std.specs.Prelude.{◌≡◌, ℕ, List, [], ◌∷◌, ◌++◌, codes, Option}
use Rattle.std.specs.Fmt.{decimal}
use Rattle.ttx_page.specs.Pages.{Page}
use Rattle.ttx_witness.specs.Coverage.{Certificate}
use Rattle.ttx_recognition.specs.Lines.{unlike_line}
use Rattle.ttx_monitor.specs.FeedLines.{start_text, rest_text, page_text, row_text, way_text, shifted_text}
use Rattle.ttx_row_monitor.specs.RowVerdicts.{IsRowVerdict}
use Rattle.ttx_row_monitor.specs.declared.breach.RowBreach.{RowBreach}
use Rattle.ttx_row_monitor.specs.declared.breach.RowBreach.TheVariants.{Slot, Row}
use Rattle.ttx_row_monitor.specs.declared.verdict.RowVerdict.{RowVerdict}
use Rattle.ttx_row_monitor.specs.declared.verdict.RowVerdict.TheVariants.{Unlike, Yes, No, Shifted}

abbrev pub yes_text : ℕ → ℕ → ℕ → List ℕ
yes_text start slots lost = codes "yes start " ++ decimal start ++ codes " slots " ++ decimal slots ++ codes " lost " ++ decimal lost ++ 10 ∷ []

abbrev pub row_way_text : List Page → ℕ → RowBreach → List ℕ
row_way_text pages slot (Slot breach) = way_text pages slot breach
row_way_text pages slot (Row page row) =
    codes "no repeat " ++ page_text pages page ++ row_text row ++ codes " slot " ++ decimal slot

abbrev pub row_verdict_text : List Page → RowVerdict → List ℕ
row_verdict_text pages (Unlike unlike) = unlike_line unlike
row_verdict_text pages (Yes start slots lost rest) = yes_text start slots lost ++ rest_text rest
row_verdict_text pages (No start slot breach) = row_way_text pages slot breach ++ start_text start
row_verdict_text pages (Shifted start slot by count) = shifted_text count slot by ++ start_text start

pub record IsRowTold (cycle : List (List ℕ)) (pages : List Page) (c : Certificate) (named : Option ℕ) (bytes : List ℕ) (verdict : RowVerdict)
    (text : List ℕ) : Type 0 where
  pub exact : IsRowVerdict cycle pages c named bytes verdict
  pub text_is : text ≡ row_verdict_text pages verdict
