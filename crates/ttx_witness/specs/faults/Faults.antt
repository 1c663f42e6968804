-- The first fault of a page, in the order of the reasons (profile). Slots are counted from 0.
--
--   IsFirstAt, Never, TellsFirst    the first slot of the period where a property holds; it holds at no slot
--   IsPageFault             the first of reasons 2 to 7, which concern only a page and a cycle
--   HaveFaults, AreFaults   for each of the first pages the first of these reasons; for each page
--   AreFirst                the first slot for each reason
--   IsFirstItem, IsFirstStart       the least item, and its least start, for which a property holds
--   IsWitnessFault          the first of reasons 8 to 10 and 12, which concern named starts
--   IsFault                 the first of all these
--   SteadyHasNoFault        a page has no fault if and only if it is steady
use Rattle.std.specs.Prelude.{◌≡◌, ◌⊎◌, ◌↔◌, ℕ, ◌<◌, ℤ, pos, true, List, length, slice_get, Option, Some, None, IsTrue}
use Rattle.ttx_page.specs.Pages.{Page, needed}
use Rattle.ttx_page.specs.declared.item.Item.{Item}
use Rattle.ttx_page.specs.Streams.{repeated}
use Rattle.ttx_page.specs.Steady.{HasHeader, HasNoHeader, OtherSubpageAt, ErasedAt, HeadDiffersAt, RowDiffersAt, LinksDifferAt, Steady}
use Rattle.ttx_witness.specs.sent.Collected.{item_number}
use Rattle.ttx_witness.specs.Coverage.{Certificate, IsCovered, IsLeftOut}
use Rattle.ttx_witness.specs.faults.Reasons.{HasNoWitness, WitnessBadAt, LateAt, LateBlankAt}
use Rattle.ttx_witness.specs.declared.faults.first_slots.FirstSlots.{FirstSlots}
use Rattle.ttx_witness.specs.declared.faults.reason.Reason.{Reason}
use Rattle.ttx_witness.specs.declared.faults.reason.PageFault.{PageFault}
use Rattle.ttx_witness.specs.declared.faults.reason.Reason.TheVariants.{NoHeader, OtherSubpage, Erased, HeadDiffers, RowDiffers}
use Rattle.ttx_witness.specs.declared.faults.reason.Reason.TheVariants.{LinksDiffer, NoWitness, WitnessBad, Late, LateBlank}

abbrev pub Never : (ℤ → Type 0) → Type 0
Never P = (j : ℤ) → P j → ⊥

-- P holds at the slot, and at no slot before it in the period
pub record IsFirstAt (cycle : List (List ℕ)) (P : ℤ → Type 0) (slot : ℕ) : Type 0 where
  pub within : slot < length cycle
  pub here : P (pos slot)
  pub none_before : (i : ℕ) → i < slot → P (pos i) → ⊥

-- the answer is the first slot where P holds, or None if there is none
abbrev pub TellsFirst : List (List ℕ) → (ℤ → Type 0) → Option ℕ → Type 0
TellsFirst cycle P None = Never P
TellsFirst cycle P (Some slot) = IsFirstAt cycle P slot

-- This reason is true, none with a smaller number is, and the slot is the first one where it is true. None if no reason is true.
abbrev pub IsPageFault : List (List ℕ) → List Page → Page → Option Reason → Type 0
IsPageFault cycle pages p None = Steady (repeated cycle) pages p
IsPageFault cycle pages p (Some (NoHeader page)) = (page ≡ p.id) × HasNoHeader (repeated cycle) p
IsPageFault cycle pages p (Some (OtherSubpage page slot)) =
    (page ≡ p.id) × HasHeader (repeated cycle) p.id
    × IsFirstAt cycle (OtherSubpageAt (repeated cycle) pages p) slot
IsPageFault cycle pages p (Some (Erased page slot)) =
    (page ≡ p.id) × HasHeader (repeated cycle) p.id
    × Never (OtherSubpageAt (repeated cycle) pages p)
    × IsFirstAt cycle (ErasedAt (repeated cycle) p) slot
IsPageFault cycle pages p (Some (HeadDiffers page slot)) =
    (page ≡ p.id) × HasHeader (repeated cycle) p.id
    × Never (OtherSubpageAt (repeated cycle) pages p)
    × Never (ErasedAt (repeated cycle) p)
    × IsFirstAt cycle (HeadDiffersAt (repeated cycle) p) slot
IsPageFault cycle pages p (Some (RowDiffers page slot)) =
    (page ≡ p.id) × HasHeader (repeated cycle) p.id
    × Never (OtherSubpageAt (repeated cycle) pages p)
    × Never (ErasedAt (repeated cycle) p)
    × Never (HeadDiffersAt (repeated cycle) p)
    × IsFirstAt cycle (RowDiffersAt (repeated cycle) p) slot
IsPageFault cycle pages p (Some (LinksDiffer page slot)) =
    (page ≡ p.id) × HasHeader (repeated cycle) p.id
    × Never (OtherSubpageAt (repeated cycle) pages p)
    × Never (ErasedAt (repeated cycle) p)
    × Never (HeadDiffersAt (repeated cycle) p)
    × Never (RowDiffersAt (repeated cycle) p)
    × IsFirstAt cycle (LinksDifferAt (repeated cycle) p) slot
IsPageFault cycle pages p (Some reason) = ⊥

-- the first faults of the first pages, or None
abbrev pub HaveFaults : List (List ℕ) → List Page → List PageFault → Type 0
HaveFaults cycle pages faults = (n : ℕ) (p : Page) (fault : PageFault) → slice_get pages n ≡ Some p → slice_get faults n ≡ Some fault →
    IsPageFault cycle pages p fault.reason

-- those of all pages
pub record AreFaults (cycle : List (List ℕ)) (pages : List Page) (faults : List PageFault) : Type 0 where
  pub count : length faults ≡ length pages
  pub each : HaveFaults cycle pages faults

-- the first slot for each reason
pub record AreFirst (cycle : List (List ℕ)) (pages : List Page) (p : Page) (first : FirstSlots) : Type 0 where
  pub has_header : IsTrue first.has_header ↔ HasHeader (repeated cycle) p.id
  pub other_subpage : TellsFirst cycle (OtherSubpageAt (repeated cycle) pages p) first.other_subpage
  pub erased : TellsFirst cycle (ErasedAt (repeated cycle) p) first.erased
  pub head : TellsFirst cycle (HeadDiffersAt (repeated cycle) p) first.head
  pub row : TellsFirst cycle (RowDiffersAt (repeated cycle) p) first.row
  pub links : TellsFirst cycle (LinksDifferAt (repeated cycle) p) first.links

-- P holds for the item, and for no item before it
pub record IsFirstItem (P : Item → Type 0) (item : Item) : Type 0 where
  pub here : P item
  pub none_before : (other : Item) → item_number other < item_number item → P other → ⊥

-- P holds for this start of the item, for no smaller start of the item, and for no start of an item before it
pub record IsFirstStart (P : Item → ℕ → Type 0) (item : Item) (start : ℕ) : Type 0 where
  pub here : P item start
  pub none_before : (other : ℕ) → other < start → P item other → ⊥
  pub no_item_before : (other : Item) (any : ℕ) → item_number other < item_number item → P other any → ⊥

abbrev pub NoItem : (Item → Type 0) → Type 0
NoItem P = (item : Item) → P item → ⊥

abbrev pub NoStart : (Item → ℕ → Type 0) → Type 0
NoStart P = (item : Item) (start : ℕ) → P item start → ⊥

-- None if each item that a viewer sees is covered or left out
abbrev pub IsWitnessFault : List (List ℕ) → Page → Certificate → Option Reason → Type 0
IsWitnessFault cycle p w None = (item : Item) → needed p item ≡ true → IsCovered cycle p w item ⊎ IsLeftOut cycle p w item
IsWitnessFault cycle p w (Some (NoWitness page item)) = (page ≡ p.id) × IsFirstItem (HasNoWitness p w) item
IsWitnessFault cycle p w (Some (WitnessBad page item start)) =
    (page ≡ p.id) × NoItem (HasNoWitness p w)
    × IsFirstStart (WitnessBadAt cycle p w) item start
IsWitnessFault cycle p w (Some (Late page item start)) =
    (page ≡ p.id) × NoItem (HasNoWitness p w)
    × NoStart (WitnessBadAt cycle p w)
    × IsFirstStart (LateAt cycle p w) item start
IsWitnessFault cycle p w (Some (LateBlank page item header)) =
    (page ≡ p.id) × NoItem (HasNoWitness p w)
    × NoStart (WitnessBadAt cycle p w)
    × NoStart (LateAt cycle p w)
    × IsFirstStart (LateBlankAt cycle p w) item header
IsWitnessFault cycle p w (Some reason) = ⊥

-- None if the page is steady and each item that a viewer sees is covered or left out
abbrev pub IsFault : List (List ℕ) → List Page → Page → Certificate → Option Reason → Type 0
IsFault cycle pages p w None = Steady (repeated cycle) pages p × IsWitnessFault cycle p w None
IsFault cycle pages p w (Some reason) = IsPageFault cycle pages p (Some reason)
    ⊎ (Steady (repeated cycle) pages p × IsWitnessFault cycle p w (Some reason))

-- a page has no fault if and only if it is steady
abbrev pub SteadyHasNoFault : Type 0
SteadyHasNoFault = (cycle : List (List ℕ)) (pages : List Page) (p : Page) (answer : Option Reason) →
    IsPageFault cycle pages p answer → answer ≡ None ↔ Steady (repeated cycle) pages p
