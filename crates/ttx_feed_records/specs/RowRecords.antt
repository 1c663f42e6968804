-- Verdicts on feeds by rows as JSON objects (profile): the names and values of the lines of `monitor --rows`.
--
--   how_members             a breach
--   row_record              a verdict
--   IsRowRecorded           the verdict on a feed, and its object
use Rattle.std.specs.Prelude.{◌≡◌, ℕ, List, [], ◌∷◌, ◌++◌, codes, Option, Some}
use Rattle.ttx_json.specs.Objects.{Member, count}
use Rattle.ttx_page.specs.Pages.{Page}
use Rattle.ttx_witness.specs.Coverage.{Certificate}
use Rattle.ttx_row_monitor.specs.RowVerdicts.{IsRowVerdict}
use Rattle.ttx_row_monitor.specs.declared.breach.RowBreach.{RowBreach}
use Rattle.ttx_row_monitor.specs.declared.breach.RowBreach.TheVariants.{Slot, Row}
use Rattle.ttx_row_monitor.specs.declared.verdict.RowVerdict.{RowVerdict}
use Rattle.ttx_row_monitor.specs.declared.verdict.RowVerdict.TheVariants.{Unlike, Yes, No, Shifted}
use Rattle.ttx_feed_records.specs.FeedRecords as feed
use Rattle.ttx_feed_records.specs.FeedRecords.{line, unlike_members, yes_members, rest_members, repeated_row, with_start, shifted_members}

abbrev pub how_members : List Page → ℕ → RowBreach → List Member
how_members pages slot (Slot breach) = feed.how_members pages slot breach
how_members pages slot (Row page row) = repeated_row pages slot page row

abbrev pub row_record : List Page → RowVerdict → List ℕ
row_record pages (Unlike unlike) = line (unlike_members unlike)
row_record pages (Yes start slots lost rest) = line (yes_members start slots (count (codes "lost") lost ∷ []) ++ rest_members rest)
row_record pages (No start slot breach) = line (with_start (how_members pages slot breach) (Some start))
row_record pages (Shifted start slot by slots) = line (with_start (shifted_members slots slot by) (Some start))

-- the verdict on a feed of these bytes, and its object
pub record IsRowRecorded (cycle : List (List ℕ)) (pages : List Page) (c : Certificate) (named : Option ℕ) (bytes : List ℕ) (verdict : RowVerdict)
    (text : List ℕ) : Type 0 where
  pub exact : IsRowVerdict cycle pages c named bytes verdict
  pub text_is : text ≡ row_record pages verdict
