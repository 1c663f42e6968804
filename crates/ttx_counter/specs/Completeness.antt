-- The laws of completeness, for receivers of class any. Each is proved by the function of its name in `completeness`.
--
--   CoveredOrStarved        all its sure runs cover an item, or from some tuning slot on none of them comes in time
--   StartsAreJudged         one pass decides which, and finds the slot
--   StarvedIsNotCovered     then no certificate with these numbers covers it
--   StarvedIsUnseen         a receiver that is starved of an item does not have the page's View
--   StarvedHasCounter       so a steady page of a clean cycle has a counter-run if one of its items does not come in time
--   StarvesInPeriod, StarvingIsCounterRun       the tuning slot may be taken from the first period; the starved run is a counter-run
--   CounterIsUnseen         a counter-run refutes that the page is seen
--   FullestNamesAll         the fullest certificate is a certificate, and names all sure starts
--   SeenIsCovered           if a steady page of a clean cycle is seen, a certificate with these numbers covers it
--   SeenExactlyWhereAccepted        if none of reasons 1 to 7 is true: all pages are seen if and only if some certificate is accepted
--   AllSeen, FoundIsLeastSeen       so the deadline that is found is the least with which all pages are seen
--   NoneFoundIsUnseen       and if none is found, there is no deadline with which all pages are seen
use Rattle.std.specs.Prelude.{◌≡◌, ◌⊎◌, ◌↔◌, ℕ, ◌-◌, ◌<◌, ◌≤◌, ℤ, pos, ◌+ℤ◌, true, List, [], length, slice_get, slice_index_or, Option, Some, None}
use Rattle.ttx_page.specs.Pages.{Page, IsPage, needed}
use Rattle.ttx_page.specs.declared.selection.Selection.{Selection}
use Rattle.ttx_page.specs.declared.item.Item.{Item}
use Rattle.ttx_page.specs.declared.class.Class.TheVariants.{Any}
use Rattle.ttx_page.specs.Memories.{Memory}
use Rattle.ttx_page.specs.Streams.{Stream, repeated, turned, run_length, IsOwned, IsSent}
use Rattle.ttx_page.specs.Steady.{Steady}
use Rattle.ttx_receiver.specs.Starving.{IsStarved}
use Rattle.ttx_cycle.specs.Files.{IsCycle}
use Rattle.ttx_witness.specs.runs.Confirming.{Rising, late_after}
use Rattle.ttx_witness.specs.laws.CycleLaws.{progress_of}
use Rattle.ttx_witness.specs.Coverage.{Certificate, IsCertificate, limit, IsCovered}
use Rattle.ttx_witness.specs.search.Finding.{IsSentUnchanged, CanBeAccepted, IsLeastDeadline}
use Rattle.ttx_certify.specs.Seen.{HasView, Seen}
use Rattle.ttx_certify.specs.Laws.{ArePages}
use Rattle.ttx_certify.specs.Verdicts.{IsClean}
use Rattle.ttx_counter.specs.Counters.{IsCounterRun}
use Rattle.ttx_counter.specs.StarvingRuns.{starving_run}
use Rattle.ttx_counter.specs.Starving.{NamesAll, Starves, HasCounter, fullest, IsCoveredByOne}

abbrev pub CoveredOrStarved : Type 0
CoveredOrStarved = (cycle : List (List ℕ)) → 0 < length cycle → (p : Page) (w : Certificate) (item : Item) → 1 ≤ w.repeat →
    Rising (w.starts p.id item) → NamesAll cycle p w item → IsCovered cycle p w item ⊎ Starves (repeated cycle) p.id w.lines w.repeat item (limit w)

-- no sure run of the item comes in time from a slot of the first period on
pub record StarvesFrom (cycle : List (List ℕ)) (p : Page) (w : Certificate) (item : Item) (start : ℕ) : Type 0 where
  pub inside : start < length cycle
  pub none : IsSent (repeated cycle) p.id w.lines w.repeat item (pos start) (pos start +ℤ pos (limit w)) → ⊥

-- the first named start whose next run comes too late, as one pass finds it
abbrev pub late_start : List (List ℕ) → Page → Certificate → Item → Option ℕ
late_start cycle p w item =
    let m = progress_of cycle p w item (run_length w.repeat item - 1) in late_after (limit w) (w.starts p.id item) m (m.first_end +ℤ pos
    (length cycle))

-- what one pass finds if all sure starts are named
pub record AreJudged (cycle : List (List ℕ)) (p : Page) (w : Certificate) (item : Item) : Type 0 where
  pub next : (progress_of cycle p w item (run_length w.repeat item - 1)).next ≤ length (w.starts p.id item)
  pub none : length (w.starts p.id item) ≡ 0 → StarvesFrom cycle p w item 0
  pub covered : 0 < length (w.starts p.id item) → late_start cycle p w item ≡ None → IsCovered cycle p w item
  pub sent : 0 < length (w.starts p.id item) → (at : ℕ) → late_start cycle p w item ≡ Some at →
      (at < length cycle) × ((owner : ℤ) × IsOwned (repeated cycle) p.id item owner (pos at))
  pub late : 0 < length (w.starts p.id item) → (at : ℕ) → late_start cycle p w item ≡ Some at → (owner : ℤ) →
      IsOwned (repeated cycle) p.id item owner (pos at) →
      StarvesFrom cycle p w item (turned (length cycle) (owner +ℤ pos 1))

abbrev pub StartsAreJudged : Type 0
StartsAreJudged = (cycle : List (List ℕ)) → 0 < length cycle → (p : Page) (w : Certificate) (item : Item) → 1 ≤ w.repeat →
    Rising (w.starts p.id item) → NamesAll cycle p w item → AreJudged cycle p w item

abbrev pub StarvedIsNotCovered : Type 0
StarvedIsNotCovered = (cycle : List (List ℕ)) → 0 < length cycle → (p : Page) (w : Certificate) (item : Item) → needed p item ≡ true →
    (start : ℕ) → StarvesFrom cycle p w item start → IsCoveredByOne cycle p w → ⊥

abbrev pub StarvedIsUnseen : Type 0
StarvedIsUnseen = (s : Stream) (p : Page) (sel : Selection) (lines repeat : ℕ) (item : Item) (tau : ℤ) (n : ℕ) (former m : Memory) (received : List
    (List ℕ)) →
    IsPage p → needed p item ≡ true → IsStarved s p sel lines repeat item tau n former m received → HasView p m → ⊥

abbrev pub StarvedHasCounter : Type 0
StarvedHasCounter = (cycle : List (List ℕ)) (pages : List Page) (p : Page) (w : Certificate) → IsCycle cycle → IsPage p → IsCertificate w →
    w.class ≡ Any →
    IsClean cycle → Steady (repeated cycle) pages p →
    (item : Item) → needed p item ≡ true → Starves (repeated cycle) p.id w.lines w.repeat item (limit w) → HasCounter cycle pages p w

abbrev pub StarvesInPeriod : Type 0
StarvesInPeriod = (cycle : List (List ℕ)) → 0 < length cycle → (p : Page) (w : Certificate) (item : Item) →
    Starves (repeated cycle) p.id w.lines w.repeat item (limit w) → (start : ℕ) × StarvesFrom cycle p w item start

abbrev pub StarvingIsCounterRun : Type 0
StarvingIsCounterRun = (cycle : List (List ℕ)) (pages : List Page) (p : Page) (w : Certificate) (index : ℕ) → slice_get pages index ≡ Some p →
    IsCycle cycle → IsPage p → IsCertificate w → IsClean cycle → Steady (repeated cycle) pages p →
    (item : Item) → needed p item ≡ true → (start : ℕ) → StarvesFrom cycle p w item start →
    IsCounterRun cycle pages (starving_run cycle index p item start w.lines w.repeat w.deadline)

abbrev pub CounterIsUnseen : Type 0
CounterIsUnseen = (cycle : List (List ℕ)) (pages : List Page) (p : Page) (w : Certificate) → HasCounter cycle pages p w → Seen cycle pages p w → ⊥

abbrev pub FullestNamesAll : Type 0
FullestNamesAll = (cycle : List (List ℕ)) → IsCycle cycle → (w : Certificate) → IsCertificate w →
    IsCertificate (fullest cycle w) × ((p : Page) (item : Item) → NamesAll cycle p (fullest cycle w) item)

-- whatever holds for other pages
abbrev pub SeenIsCovered : Type 0
SeenIsCovered = (cycle : List (List ℕ)) (pages : List Page) (p : Page) (w : Certificate) → IsCycle cycle → IsPage p → IsCertificate w →
    w.class ≡ Any →
    IsClean cycle → Steady (repeated cycle) pages p → Seen cycle pages p w → IsCoveredByOne cycle p w

abbrev pub SeenExactlyWhereAccepted : Type 0
SeenExactlyWhereAccepted = (cycle : List (List ℕ)) (pages : List Page) (w : Certificate) → IsCycle cycle → ArePages pages → IsCertificate w →
    w.class ≡ Any →
    IsSentUnchanged cycle pages →
    ((n : ℕ) (p : Page) → slice_get pages n ≡ Some p → Seen cycle pages p w) ↔ CanBeAccepted cycle pages w.class w.lines w.repeat w.deadline

-- all pages of a list are seen
abbrev pub AllSeen : List (List ℕ) → List Page → Certificate → Type 0
AllSeen cycle pages w = (n : ℕ) (p : Page) → slice_get pages n ≡ Some p → Seen cycle pages p w

-- the deadline that is found is the least with which all pages are seen
abbrev pub FoundIsLeastSeen : Type 0
FoundIsLeastSeen = (cycle : List (List ℕ)) (pages : List Page) (w : Certificate) (d : ℕ) → IsCycle cycle → ArePages pages → IsCertificate w →
    w.class ≡ Any →
    IsSentUnchanged cycle pages → IsLeastDeadline cycle pages w (Some d) →
    AllSeen cycle pages w × (w.deadline ≡ d) × ((e : ℕ) → 1 ≤ e → e ≤ 1000000 → AllSeen cycle pages (record w { deadline = e }) → d ≤ e)

-- if no deadline is found, some page is not seen, whatever the deadline
abbrev pub NoneFoundIsUnseen : Type 0
NoneFoundIsUnseen = (cycle : List (List ℕ)) (pages : List Page) (w : Certificate) → IsCycle cycle → ArePages pages → IsCertificate w →
    w.class ≡ Any →
    IsSentUnchanged cycle pages → IsLeastDeadline cycle pages w None →
    (d : ℕ) → 1 ≤ d → d ≤ 1000000 → AllSeen cycle pages (record w { deadline = d }) → ⊥
