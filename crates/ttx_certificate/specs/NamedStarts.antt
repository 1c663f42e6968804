-- What a certificate names (profile). Slots are counted from 0, deadlines in fields.
--
--   Certificate             the numbers of a certificate, and the starts that it names for each item of each page
--   Rising                  named starts rise strictly
--   IsCertificate           the ranges of a certificate's numbers, and the order of its starts
--   limit                   the deadline in slots
--   next_start              the named start after one, round a cycle
use Rattle.std.specs.Prelude.{ℕ, ◌+◌, ◌*◌, ◌<◌, ◌≤◌, ℤ, pos, ◌+ℤ◌, nat_lt, if◌then◌else◌, List, length, slice_index_or}
use Rattle.ttx_header.specs.Ids.{Id}
use Rattle.ttx_page.specs.declared.item.Item.{Item}
use Rattle.ttx_page.specs.declared.class.Class.{Class}

abbrev pub Rising : List ℕ → Type 0
Rising starts = (i j : ℕ) → i < j → j < length starts → slice_index_or starts i 0 < slice_index_or starts j 0

-- lines of a field, the repeat count, the deadline in fields, the class of receivers, and the
-- starts that are named for each item of each page
pub record Certificate : Type 0 where
  pub lines : ℕ
  pub repeat : ℕ
  pub deadline : ℕ
  pub class : Class
  pub starts : Id → Item → List ℕ

pub record IsCertificate (w : Certificate) : Type 0 where
  pub some_lines : 1 ≤ w.lines
  pub few_lines : w.lines ≤ 32
  pub some_repeats : 1 ≤ w.repeat
  pub few_repeats : w.repeat ≤ 8
  pub some_fields : 1 ≤ w.deadline
  pub few_fields : w.deadline ≤ 1000000
  pub rising : (page : Id) (item : Item) → Rising (w.starts page item)

abbrev pub limit : Certificate → ℕ
limit w = w.deadline * w.lines

-- the named start after the i-th, in a cycle of n slots: after the last one the first, a period later
abbrev pub next_start : ℕ → List ℕ → ℕ → ℤ
next_start n starts i = if nat_lt (i + 1) (length starts) then pos (slice_index_or starts (i + 1) 0) else pos (slice_index_or starts 0 0) +ℤ pos n
