-- The lines of a verdict on a feed (profile): words and numbers separated by one space, each line ended by 0A.
--
--   start_text, rest_text   where the feed begins, at the end of a line; the line for the bytes behind the last slot
--   yes_text                the yes line
--   page_text, row_text     the id of a page of a list; a row, 0 for the header
--   way_text                how a slot breaks the rule
--   repeat_text             a byte that was wrong too often
--   slipped_text, shift_text, shifted_text     where the feed has slipped, and by how many slots of a cycle
--   feed_text               the text of a verdict
--   IsFeedTold              the verdict on a feed, and its text
use Rattle.std.specs.Prelude.{◌≡◌, ℕ, zero, suc, ◌-◌, ◌*◌, nat_lt, if◌then◌else◌, List, [], ◌∷◌, ◌++◌, codes, slice_get, Option, Some, None}
use Rattle.std.specs.Fmt.{decimal}
use Rattle.ttx_digits.specs.PageIds.{id_text}
use Rattle.ttx_page.specs.Pages.{Page}
use Rattle.ttx_witness.specs.Coverage.{Certificate}
use Rattle.ttx_recognition.specs.Lines.{unlike_line}
use Rattle.ttx_monitor.specs.FeedVerdicts.{IsFeedVerdict}
use Rattle.ttx_monitor.specs.declared.breach.TextByte.{TextByte}
use Rattle.ttx_monitor.specs.declared.breach.Breach.{Breach}
use Rattle.ttx_monitor.specs.declared.breach.Breach.TheVariants.{Unasked, Lost, Bits, Repeated}
use Rattle.ttx_monitor.specs.declared.verdict.FeedVerdict.{FeedVerdict}
use Rattle.ttx_monitor.specs.declared.verdict.FeedVerdict.TheVariants.{Unlike, Yes, No, Shifted}

abbrev pub start_text : ℕ → List ℕ
start_text start = codes " start " ++ decimal start ++ 10 ∷ []

abbrev pub rest_text : ℕ → List ℕ
rest_text zero = []
rest_text (suc n) = codes "rest " ++ decimal (suc n) ++ codes " bytes" ++ 10 ∷ []

abbrev pub yes_text : ℕ → ℕ → ℕ → ℕ → List ℕ
yes_text start slots wrong streak =
    codes "yes start " ++ decimal start ++ codes " slots " ++ decimal slots ++ codes " wrong " ++ decimal wrong ++ codes " streak " ++ decimal streak
    ++ 10 ∷ []

abbrev pub page_text : List Page → ℕ → List ℕ
page_text pages index = id_at (slice_get pages index)
  where
    id_at : Option Page → List ℕ
    id_at None = []
    id_at (Some p) = id_text p.id

abbrev pub row_text : ℕ → List ℕ
row_text zero = codes " head"
row_text (suc n) = codes " row " ++ decimal (suc n)

abbrev pub repeat_text : List Page → TextByte → List ℕ
repeat_text pages t = codes "no repeat " ++ page_text pages t.page ++ row_text t.row ++ codes " byte " ++ decimal t.byte

abbrev pub way_text : List Page → ℕ → Breach → List ℕ
way_text pages slot Unasked = codes "no slot " ++ decimal slot ++ codes " unlike"
way_text pages slot Lost = codes "no slot " ++ decimal slot ++ codes " lost"
way_text pages slot (Bits x) = codes "no slot " ++ decimal slot ++ codes " byte " ++ decimal x
way_text pages slot (Repeated t) = repeat_text pages t ++ codes " slot " ++ decimal slot

abbrev pub slipped_text : ℕ → List ℕ
slipped_text slot = codes "no slot " ++ decimal slot ++ codes " shifted by "

-- J slots were lost, or -J inserted, whichever is less
abbrev pub shift_text : ℕ → ℕ → List ℕ
shift_text count by = if nat_lt count (2 * by) then codes "-" ++ decimal (count - by) else decimal by

abbrev pub shifted_text : ℕ → ℕ → ℕ → List ℕ
shifted_text count slot by = slipped_text slot ++ shift_text count by

abbrev pub feed_text : List Page → FeedVerdict → List ℕ
feed_text pages (Unlike unlike) = unlike_line unlike
feed_text pages (Yes start slots wrong streak rest) = yes_text start slots wrong streak ++ rest_text rest
feed_text pages (No start slot breach) = way_text pages slot breach ++ start_text start
feed_text pages (Shifted start slot by count) = shifted_text count slot by ++ start_text start

-- the verdict on a feed of these bytes, and its text
pub record IsFeedTold (cycle : List (List ℕ)) (pages : List Page) (c : Certificate) (named : Option ℕ) (bytes : List ℕ) (verdict : FeedVerdict)
    (text : List ℕ) : Type 0 where
  pub exact : IsFeedVerdict cycle pages c named bytes verdict
  pub text_is : text ≡ feed_text pages verdict
