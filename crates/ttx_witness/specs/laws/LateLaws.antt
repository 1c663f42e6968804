-- Laws of late starts and late headers: something is late if and only if nothing serves some tuning slot.
--
--   IsServed                the run from a named start serves a tuning slot
--   LateIsUnserved          some start is late if and only if some tuning slot is not served
--   HasHeaderInTime         a header of the page comes in time after a tuning slot
--   LateBlankIsUnserved     some header is late if and only if after some tuning slot no header comes in time
use Rattle.std.specs.Prelude.{◌≡◌, ◌↔◌, ℕ, ◌≤◌, ℤ, pos, ◌+ℤ◌, ◌<ℤ◌, ◌≤ℤ◌, true, List, [], length, Contains}
use Rattle.ttx_page.specs.Packets.{packet_of}
use Rattle.ttx_page.specs.Pages.{Page, IsBlank, needed}
use Rattle.ttx_page.specs.declared.item.Item.{Item}
use Rattle.ttx_page.specs.declared.class.Class.TheVariants.{Clearing}
use Rattle.ttx_page.specs.Streams.{repeated, turned, IsOwned, EndsBelow, heads_page}
use Rattle.ttx_page.specs.Steady.{HasHeader}
use Rattle.ttx_witness.specs.runs.Confirming.{Rising}
use Rattle.ttx_witness.specs.Coverage.{Certificate, limit, IsSureStart}
use Rattle.ttx_witness.specs.faults.Reasons.{LateAt, LateBlankAt}

-- some run from a named start has its first owner at tau or later, and ends before the deadline after tau
abbrev pub IsServed : List (List ℕ) → Page → Certificate → Item → ℤ → Type 0
IsServed cycle p w item tau =
    (i h : ℤ) × Contains (w.starts p.id item) (turned (length cycle) i) × IsOwned (repeated cycle) p.id item h i × (tau ≤ℤ h)
    × EndsBelow (repeated cycle) p.id w.repeat item i (tau +ℤ pos (limit w))

-- for an item that a viewer sees, if some start is named and each named start is sure
abbrev pub LateIsUnserved : Type 0
LateIsUnserved =
    (cycle : List (List ℕ)) → 1 ≤ length cycle → (p : Page) (w : Certificate) (item : Item) → 1 ≤ w.repeat → Rising (w.starts p.id item) →
    needed p item ≡ true →
    (start : ℕ) × Contains (w.starts p.id item) start →
    ((start : ℕ) → Contains (w.starts p.id item) start → IsSureStart cycle p.id w.lines w.repeat item start) →
    ((start : ℕ) × LateAt cycle p w item start) ↔ ((tau : ℤ) × (IsServed cycle p w item tau → ⊥))

-- a header of the page at tau or later, before the deadline after tau
abbrev pub HasHeaderInTime : List (List ℕ) → Page → Certificate → ℤ → Type 0
HasHeaderInTime cycle p w tau = (i : ℤ) × (tau ≤ℤ i) × (i <ℤ (tau +ℤ pos (limit w))) × (heads_page p.id (packet_of (repeated cycle i)) ≡ true)

-- for receivers that surely clear, and a blank item that a viewer sees and for which no start is named
abbrev pub LateBlankIsUnserved : Type 0
LateBlankIsUnserved =
    (cycle : List (List ℕ)) → 1 ≤ length cycle → (p : Page) (w : Certificate) (item : Item) → HasHeader (repeated cycle) p.id → needed p item ≡ true →
    w.class ≡ Clearing → IsBlank p item → w.starts p.id item ≡ [] →
    ((header : ℕ) × LateBlankAt cycle p w item header) ↔ ((tau : ℤ) × (HasHeaderInTime cycle p w tau → ⊥))
