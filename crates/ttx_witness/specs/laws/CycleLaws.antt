-- Laws of certificates over cycles. In each, a run of the item has k + 1 transmissions.
--
--   CoverageIsDecided       one pass over a period decides whether an item is covered
--   FirstsAreFound          the start that a pass reports as bad or late is the first one
--   FurtherStartsCover      naming a further start with a sure run keeps a covered item covered
--   SureStartsAreFound      a search finds exactly the starts of sure runs
--   LeastLimitIsFound       and the least limit with which any named starts cover the item
use Rattle.std.specs.Prelude.{◌≡◌, ◌↔◌, ℕ, suc, ◌<◌, ◌≤◌, pos, ◌+ℤ◌, List, length, Contains, Option, Some, None}
use Rattle.ttx_header.specs.Ids.{Id}
use Rattle.ttx_page.specs.Pages.{Page}
use Rattle.ttx_page.specs.declared.item.Item.{Item}
use Rattle.ttx_page.specs.Streams.{repeated, run_length, IsOwned, IsSure}
use Rattle.ttx_witness.specs.runs.Transmissions.{runs}
use Rattle.ttx_witness.specs.runs.Confirming.{Progress, Rising, late_after, after_runs, not_begun}
use Rattle.ttx_witness.specs.runs.Repeating.{IsBad, IsLate, IsFirst}
use Rattle.ttx_witness.specs.runs.SureStarts.{Spread, sure_starts, spread_of, width}
use Rattle.ttx_witness.specs.laws.RunLaws.{Passes}
use Rattle.ttx_witness.specs.Coverage.{Certificate, limit, IsSureStart, IsCovered}
use Rattle.ttx_witness.specs.sent.ItemTransmissions.{sent_in}

abbrev pub CoverageIsDecided : Type 0
CoverageIsDecided = (cycle : List (List ℕ)) → 1 ≤ length cycle → (p : Page) (w : Certificate) (item : Item) (k : ℕ) →
    run_length w.repeat item ≡ suc k →
    Rising (w.starts p.id item) → Passes (length cycle) k (limit w) (w.starts p.id item) (sent_in cycle p.id w.lines item) ↔ IsCovered cycle p w item

-- the progress of an item's named starts after one pass
abbrev pub progress_of : List (List ℕ) → Page → Certificate → Item → ℕ → Progress
progress_of cycle p w item k = after_runs (limit w) (w.starts p.id item) not_begun (runs (length cycle) k (sent_in cycle p.id w.lines item))

abbrev pub FirstsAreFound : Type 0
FirstsAreFound = (cycle : List (List ℕ)) → 1 ≤ length cycle → (p : Page) (w : Certificate) (item : Item) (k : ℕ) → run_length w.repeat item ≡ suc k →
    Rising (w.starts p.id item) → let starts = w.starts p.id item in let m = progress_of cycle p w item k in
    let Owned = IsOwned (repeated cycle) p.id item in let Sure = IsSure (repeated cycle) w.lines p.id.mag item in
    (m.next ≤ length starts)
    × (m.next < length starts → IsBad Owned Sure (length cycle) (suc k) starts m.next
    × ((j : ℕ) → j < m.next → IsBad Owned Sure (length cycle) (suc k) starts j → ⊥))
    × (m.next ≡ length starts → 0 < length starts →
    IsFirst (IsLate Owned (length cycle) (suc k) (limit w) starts) starts (late_after (limit w) starts m (m.first_end +ℤ pos (length cycle))))

-- two certificates that differ only in their starts
abbrev pub FurtherStartsCover : Type 0
FurtherStartsCover = (cycle : List (List ℕ)) (p : Page) (w v : Certificate) (item : Item) →
    w.lines ≡ v.lines → w.repeat ≡ v.repeat → w.deadline ≡ v.deadline →
    ((start : ℕ) → Contains (w.starts p.id item) start → Contains (v.starts p.id item) start) →
    ((start : ℕ) → Contains (v.starts p.id item) start → IsSureStart cycle p.id v.lines v.repeat item start) →
    IsCovered cycle p w item → IsCovered cycle p v item

-- the starts that a search finds, and how far apart their runs are
abbrev pub found_starts : List (List ℕ) → Id → ℕ → Item → ℕ → List ℕ
found_starts cycle page lines item k = sure_starts (runs (length cycle) k (sent_in cycle page lines item))

abbrev pub found_spread : List (List ℕ) → Id → ℕ → Item → ℕ → Option Spread
found_spread cycle page lines item k = spread_of None (runs (length cycle) k (sent_in cycle page lines item))

abbrev pub SureStartsAreFound : Type 0
SureStartsAreFound = (cycle : List (List ℕ)) → 1 ≤ length cycle → (page : Id) (lines repeat : ℕ) (item : Item) (k : ℕ) →
    run_length repeat item ≡ suc k →
    (start : ℕ) → Contains (found_starts cycle page lines item k) start ↔ IsSureStart cycle page lines repeat item start

-- None: nothing covers the item. Otherwise the starts found cover it if and only if the limit is at least the width, and no other starts
-- cover it with less.
abbrev pub LeastLimitIsFound : Type 0
LeastLimitIsFound = (cycle : List (List ℕ)) → 1 ≤ length cycle → (p : Page) (w : Certificate) (item : Item) (k : ℕ) →
    run_length w.repeat item ≡ suc k →
    (found_spread cycle p.id w.lines item k ≡ None → IsCovered cycle p w item → ⊥)
    × ((s : Spread) → found_spread cycle p.id w.lines item k ≡ Some s →
    (IsCovered cycle p w item → width (length cycle) s ≤ limit w)
    × (w.starts p.id item ≡ found_starts cycle p.id w.lines item k → width (length cycle) s ≤ limit w → IsCovered cycle p w item))
