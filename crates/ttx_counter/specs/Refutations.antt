-- What the search for counter-runs answers about a cycle, pages and a certificate. Some answers carry a counter-run, None carries a claim.
--
--   TellsStart              the slot from which on a receiver is starved of an item; None if all its sure runs cover it
--   TellsNeeded             the same for an item that a viewer sees
--   IsAfterOwner            the slot of the period that follows the owner of the transmission in a slot
--   IsCounterTo, IsCounterOf        a counter-run with the numbers of a certificate; one of the page at a place of the list
--   NamesSureStarts         a certificate names the starts of the sure runs of all items that a viewer sees
--   is_absent               the fault of a page without a header
--   TellsCovered            a counter-run of a page that no certificate covers; None if all its sure runs cover each item
--   IsSentWell, TellsPage    the page has a header, and is covered if it is steady; a counter-run, or None if so
--   TellsPlainly            a counter-run of a page; None if no plain run of it ends wrong
--   IsFirstUnsent, IsFirstWrong     the first page that is not sent well; the first of which a plain run ends wrong
--   TellsPages, TellsAllPlainly     the same answers for all pages
--   IsUnrefuted, TellsCounter       all pages are sent well, and no plain run ends wrong; a counter-run, or None if so
--   IsFirstTold, TellsFirst         which page the counter-run concerns
use Rattle.std.specs.Prelude.{◌≡◌, ◌⊎◌, ◌↔◌, ℕ, ◌<◌, pos, ◌+ℤ◌, true, false, Bool, List, slice_get, Contains, Option, Some, None, ⊤}
use Rattle.ttx_page.specs.Pages.{Page, needed}
use Rattle.ttx_page.specs.declared.item.Item.{Item}
use Rattle.ttx_page.specs.Streams.{repeated, turned}
use Rattle.ttx_page.specs.Steady.{HasHeader, Steady}
use Rattle.ttx_witness.specs.declared.runs.transmissions.Transmission.{Transmission}
use Rattle.ttx_witness.specs.sent.Collected.{IsItem}
use Rattle.ttx_witness.specs.Coverage.{Certificate, limit, IsSureStart, IsCovered}
use Rattle.ttx_witness.specs.declared.faults.reason.Reason.{Reason}
use Rattle.ttx_witness.specs.declared.faults.reason.Reason.TheVariants.{BadSlot, NoHeader, OtherSubpage, Erased, HeadDiffers, RowDiffers, LinksDiffer}
use Rattle.ttx_witness.specs.declared.faults.reason.Reason.TheVariants.{NoWitness, WitnessBad, Late, Unsteady, LateBlank}
use Rattle.ttx_counter.specs.Counters.{CounterRun, IsCounterRun}
use Rattle.ttx_counter.specs.Sources.{IsPlainlyRight}
use Rattle.ttx_counter.specs.Starving.{fullest, IsCoveredByOne}
use Rattle.ttx_certify.specs.Verdicts.{IsClean}
use Rattle.ttx_counter.specs.Completeness.{StarvesFrom}

abbrev pub TellsStart : List (List ℕ) → Page → Certificate → Item → Option ℕ → Type 0
TellsStart cycle p w item None = IsCovered cycle p (fullest cycle w) item
TellsStart cycle p w item (Some start) = StarvesFrom cycle p w item start

abbrev pub TellsNeeded : List (List ℕ) → Page → Certificate → Item → Option ℕ → Type 0
TellsNeeded cycle p w item None = needed p item ≡ true → IsCovered cycle p (fullest cycle w) item
TellsNeeded cycle p w item (Some start) = (needed p item ≡ true) × StarvesFrom cycle p w item start

-- the slot of the period that follows the owner of a transmission in slot `at`; or no transmission is in that slot
abbrev pub IsAfterOwner : List Transmission → ℕ → ℕ → ℕ → Type 0
IsAfterOwner sent period at start =
    ((t : Transmission) × Contains sent t × (t.slot ≡ pos at) × (start ≡ turned period (t.owner +ℤ pos 1)))
    ⊎ ((t : Transmission) → Contains sent t → t.slot ≡ pos at → ⊥)

-- the starts of the sure runs of all items that a viewer sees
abbrev pub NamesSureStarts : List (List ℕ) → List Page → Certificate → Certificate → Type 0
NamesSureStarts cycle pages w found =
    (n : ℕ) (p : Page) → slice_get pages n ≡ Some p → (item : Item) → IsItem item →
    (start : ℕ) → Contains (found.starts p.id item) start ↔ ((needed p item ≡ true) × IsSureStart cycle p.id w.lines w.repeat item start)

-- the fault is that the page has no header
abbrev pub is_absent : Option Reason → Bool
is_absent None = false
is_absent (Some (BadSlot slot)) = false
is_absent (Some (NoHeader page)) = true
is_absent (Some (OtherSubpage page slot)) = false
is_absent (Some (Erased page slot)) = false
is_absent (Some (HeadDiffers page slot)) = false
is_absent (Some (RowDiffers page slot)) = false
is_absent (Some (LinksDiffer page slot)) = false
is_absent (Some (NoWitness page item)) = false
is_absent (Some (WitnessBad page item start)) = false
is_absent (Some (Late page item start)) = false
is_absent (Some Unsteady) = false
is_absent (Some (LateBlank page item header)) = false

pub record IsCounterTo (cycle : List (List ℕ)) (pages : List Page) (w : Certificate) (c : CounterRun) : Type 0 where
  pub is : IsCounterRun cycle pages c
  pub lines : c.lines ≡ w.lines
  pub repeat : c.repeat ≡ w.repeat
  pub deadline : c.deadline ≡ w.deadline

abbrev pub IsCounterOf : List (List ℕ) → List Page → Certificate → ℕ → CounterRun → Type 0
IsCounterOf cycle pages w index c = IsCounterTo cycle pages w c × (c.page ≡ index)

-- the page has a header; in a clean cycle, if the page is steady, some certificate with these numbers covers it
pub record IsSentWell (cycle : List (List ℕ)) (pages : List Page) (p : Page) (w : Certificate) : Type 0 where
  pub header : HasHeader (repeated cycle) p.id
  pub covered : IsClean cycle → Steady (repeated cycle) pages p → IsCoveredByOne cycle p w

-- None: the page at the index is sent well; Some: it is not, and this is a counter-run of it
abbrev pub TellsPage : {C : Type 0} → (C → CounterRun) → List (List ℕ) → List Page → ℕ → Page → Certificate → Option C → Type 0
TellsPage run cycle pages index p w None = IsSentWell cycle pages p w
TellsPage run cycle pages index p w (Some c) = IsCounterOf cycle pages w index (run c) × (IsSentWell cycle pages p w → ⊥)

abbrev pub TellsCovered : {C : Type 0} → (C → CounterRun) → List (List ℕ) → List Page → ℕ → Page → Certificate → Option C → Type 0
TellsCovered run cycle pages index p w None = (item : Item) → needed p item ≡ true → IsCovered cycle p (fullest cycle w) item
TellsCovered run cycle pages index p w (Some c) = IsCounterOf cycle pages w index (run c) × (IsCoveredByOne cycle p w → ⊥)

-- the first page in the order of the list that is not sent well
pub record IsFirstUnsent (cycle : List (List ℕ)) (pages : List Page) (w : Certificate) (index : ℕ) : Type 0 where
  pub page : Page
  pub here : slice_get pages index ≡ Some page
  pub unsent : IsSentWell cycle pages page w → ⊥
  pub none_before : (n : ℕ) (p : Page) → n < index → slice_get pages n ≡ Some p → IsSentWell cycle pages p w

abbrev pub TellsPages : {C : Type 0} → (C → CounterRun) → List (List ℕ) → List Page → Certificate → Option C → Type 0
TellsPages run cycle pages w None = (n : ℕ) (p : Page) → slice_get pages n ≡ Some p → IsSentWell cycle pages p w
TellsPages run cycle pages w (Some c) = IsCounterTo cycle pages w (run c) × IsFirstUnsent cycle pages w (run c).page

abbrev pub TellsPlainly : {C : Type 0} → (C → CounterRun) → List (List ℕ) → List Page → ℕ → Bool → Certificate → Option C → Type 0
TellsPlainly run cycle pages index any_sub w None = IsPlainlyRight cycle pages index any_sub w.lines (limit w)
TellsPlainly run cycle pages index any_sub w (Some c) = IsCounterOf cycle pages w index (run c) × ((run c).any_sub ≡ any_sub)
    × (IsPlainlyRight cycle pages index any_sub w.lines (limit w) → ⊥)

-- the first page in the order of the list of which a plain run ends wrong; the run by its number counts only if none by its id does
pub record IsFirstWrong (cycle : List (List ℕ)) (pages : List Page) (w : Certificate) (index : ℕ) (any_sub : Bool) : Type 0 where
  pub wrong : IsPlainlyRight cycle pages index any_sub w.lines (limit w) → ⊥
  pub right_by_id : any_sub ≡ true → IsPlainlyRight cycle pages index false w.lines (limit w)
  pub none_before : (n : ℕ) (other : Bool) → n < index → IsPlainlyRight cycle pages n other w.lines (limit w)

abbrev pub TellsAllPlainly : {C : Type 0} → (C → CounterRun) → List (List ℕ) → List Page → Certificate → Option C → Type 0
TellsAllPlainly run cycle pages w None = (n : ℕ) (any_sub : Bool) → IsPlainlyRight cycle pages n any_sub w.lines (limit w)
TellsAllPlainly run cycle pages w (Some c) = IsCounterTo cycle pages w (run c) × IsFirstWrong cycle pages w (run c).page (run c).any_sub

-- no page lacks a header; in a clean cycle some certificate of class any with these numbers covers each steady page; no plain run ends
-- wrong
pub record IsUnrefuted (cycle : List (List ℕ)) (pages : List Page) (w : Certificate) : Type 0 where
  pub sent : (n : ℕ) (p : Page) → slice_get pages n ≡ Some p → IsSentWell cycle pages p w
  pub plain : (n : ℕ) (any_sub : Bool) → IsPlainlyRight cycle pages n any_sub w.lines (limit w)

abbrev pub TellsCounter : {C : Type 0} → (C → CounterRun) → List (List ℕ) → List Page → Certificate → Option C → Type 0
TellsCounter run cycle pages w None = IsUnrefuted cycle pages w
TellsCounter run cycle pages w (Some c) = IsCounterTo cycle pages w (run c)

-- The first page that is not sent well. If all are, the first page of which a plain run ends wrong.
abbrev pub IsFirstTold : List (List ℕ) → List Page → Certificate → CounterRun → Type 0
IsFirstTold cycle pages w c =
    IsFirstUnsent cycle pages w c.page
    ⊎ (((n : ℕ) (p : Page) → slice_get pages n ≡ Some p → IsSentWell cycle pages p w) × IsFirstWrong cycle pages w c.page c.any_sub)

abbrev pub TellsFirst : {C : Type 0} → (C → CounterRun) → List (List ℕ) → List Page → Certificate → Option C → Type 0
TellsFirst run cycle pages w None = ⊤
TellsFirst run cycle pages w (Some c) = IsFirstTold cycle pages w (run c)
