-- Verdicts on feeds as JSON objects (profile): the names and values of the lines of `monitor`.
--
--   line                    the line of an object
--   unlike_members          a feed that is no sequence of slots: the form of its packets, and what to leave out of each
--   rest_members            the bytes behind the last slot, if there are any
--   yes_members             a yes, and what is counted besides its slots
--   item_name               a row, 0 for the header
--   at_slot                 a slot that breaks the rule, and how
--   row_members             a row of a page
--   repeated, repeated_row  a byte, or a row, that was wrong too often
--   how_members             a breach
--   with_start              the slot of the cycle with which the feed begins, last, if it is told
--   shift_member, shifted_members   a slip: how many slots were lost or inserted, whichever are less
--   feed_record             a verdict
--   IsFeedRecorded          the verdict on a feed, and its object
use Rattle.std.specs.Prelude.{◌≡◌, ℕ, zero, suc, ◌-◌, ◌*◌, nat_lt, if◌then◌else◌, List, [], ◌∷◌, ◌++◌, codes, Option, Some, None}
use Rattle.std.specs.Fmt.{decimal}
use Rattle.ttx_json.specs.Objects.{Member, word, count, flag, object_line}
use Rattle.ttx_page.specs.Pages.{Page}
use Rattle.ttx_witness.specs.Coverage.{Certificate}
use Rattle.ttx_recognition.specs.declared.form.Form.{Form}
use Rattle.ttx_recognition.specs.declared.form.Unlike.{Unlike}
use Rattle.ttx_recognition.specs.declared.form.Unlike.TheVariants as unlike
use Rattle.ttx_monitor.specs.FeedLines.{page_text}
use Rattle.ttx_monitor.specs.FeedVerdicts.{IsFeedVerdict}
use Rattle.ttx_monitor.specs.declared.breach.TextByte.{TextByte}
use Rattle.ttx_monitor.specs.declared.breach.Breach.{Breach}
use Rattle.ttx_monitor.specs.declared.breach.Breach.TheVariants.{Unasked, Lost, Bits, Repeated}
use Rattle.ttx_monitor.specs.declared.verdict.FeedVerdict.{FeedVerdict}
use Rattle.ttx_monitor.specs.declared.verdict.FeedVerdict.TheVariants.{Unlike as IsUnlike, Yes, No, Shifted}

-- opaque, so that proofs compare members and not texts
unfoldable pub line : List Member → List ℕ
line members = object_line members

abbrev pub no : List Member → List Member
no members = word (codes "answer") (codes "no") ∷ members

abbrev pub form_members : Form → List Member
form_members f =
    no (word (codes "how") (codes "packets") ∷ count (codes "bytes") f.size ∷ count (codes "skip") f.off ∷ flag (codes "reversed") f.reversed
    ∷ count (codes "drop") (f.size - 42) ∷ [])

abbrev pub no_teletext : List Member
no_teletext = no (word (codes "how") (codes "no teletext") ∷ [])

abbrev pub unlike_members : Unlike → List Member
unlike_members (unlike.Form f) = form_members f
unlike_members unlike.NoTeletext = no_teletext

abbrev pub rest_members : ℕ → List Member
rest_members zero = []
rest_members (suc n) = count (codes "rest") (suc n) ∷ []

abbrev pub yes_members : ℕ → ℕ → List Member → List Member
yes_members start slots counts = word (codes "answer") (codes "yes") ∷ count (codes "start") start ∷ count (codes "slots") slots ∷ counts

unfoldable pub item_name : ℕ → List ℕ
item_name zero = codes "head"
item_name (suc n) = codes "row " ++ decimal (suc n)

abbrev pub at_slot : ℕ → List ℕ → List Member → List Member
at_slot slot how members = no (count (codes "slot") slot ∷ word (codes "how") how ∷ members)

abbrev pub row_members : List Page → ℕ → ℕ → List Member
row_members pages page row = word (codes "page") (page_text pages page) ∷ word (codes "item") (item_name row) ∷ []

-- a byte, and a row, that was wrong too often
abbrev pub repeated : List Page → ℕ → TextByte → List Member
repeated pages slot t = at_slot slot (codes "repeat") (row_members pages t.page t.row ++ count (codes "byte") t.byte ∷ [])

abbrev pub repeated_row : List Page → ℕ → ℕ → ℕ → List Member
repeated_row pages slot page row = at_slot slot (codes "repeat") (row_members pages page row)

abbrev pub how_members : List Page → ℕ → Breach → List Member
how_members pages slot Unasked = at_slot slot (codes "unlike") []
how_members pages slot Lost = at_slot slot (codes "lost") []
how_members pages slot (Bits x) = at_slot slot (codes "byte") (count (codes "byte") x ∷ [])
how_members pages slot (Repeated t) = repeated pages slot t

abbrev pub with_start : List Member → Option ℕ → List Member
with_start members None = members
with_start members (Some start) = members ++ count (codes "start") start ∷ []

abbrev pub shift_member : ℕ → ℕ → Member
shift_member slots by = if nat_lt slots (2 * by) then count (codes "inserted") (slots - by) else count (codes "lost") by

abbrev pub shifted_members : ℕ → ℕ → ℕ → List Member
shifted_members slots slot by = at_slot slot (codes "shifted") (shift_member slots by ∷ [])

abbrev pub feed_record : List Page → FeedVerdict → List ℕ
feed_record pages (IsUnlike unlike) = line (unlike_members unlike)
feed_record pages (Yes start slots wrong streak rest) =
    line (yes_members start slots (count (codes "wrong") wrong ∷ count (codes "streak") streak ∷ []) ++ rest_members rest)
feed_record pages (No start slot breach) = line (with_start (how_members pages slot breach) (Some start))
feed_record pages (Shifted start slot by slots) = line (with_start (shifted_members slots slot by) (Some start))

-- the verdict on a feed of these bytes, and its object
pub record IsFeedRecorded (cycle : List (List ℕ)) (pages : List Page) (c : Certificate) (named : Option ℕ) (bytes : List ℕ) (verdict : FeedVerdict)
    (text : List ℕ) : Type 0 where
  pub exact : IsFeedVerdict cycle pages c named bytes verdict
  pub text_is : text ≡ feed_record pages verdict
