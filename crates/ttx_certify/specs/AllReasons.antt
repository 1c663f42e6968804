-- The first reason of each page.
--
--   IsTrueReason            a reason is true of the page, at the slot, item or start that it names
--   HasReason               some reason is true of the page
--   AreReasons              for each page of a list its first reason, and None exactly where none is true of it
--   ReasonsAreTrue          a first reason is true; where there is none, no reason is true
use Rattle.std.specs.Prelude.{◌≡◌, ◌↔◌, ℕ, ◌<◌, pos, List, length, slice_get, Option, Some, IsSome}
use Rattle.ttx_page.specs.Pages.{Page}
use Rattle.ttx_page.specs.Streams.{repeated}
use Rattle.ttx_page.specs.Steady.{HasNoHeader, OtherSubpageAt, ErasedAt, HeadDiffersAt, RowDiffersAt, LinksDifferAt}
use Rattle.ttx_witness.specs.Coverage.{Certificate, IsCertificate}
use Rattle.ttx_witness.specs.faults.Faults.{IsFault}
use Rattle.ttx_witness.specs.faults.Reasons.{HasNoWitness, WitnessBadAt, LateAt, LateBlankAt}
use Rattle.ttx_witness.specs.declared.faults.reason.Reason.{Reason}
use Rattle.ttx_witness.specs.declared.faults.reason.Reason.TheVariants.{BadSlot, NoHeader, OtherSubpage, Erased, HeadDiffers, RowDiffers, LinksDiffer}
use Rattle.ttx_witness.specs.declared.faults.reason.Reason.TheVariants.{NoWitness, WitnessBad, Late, Unsteady, LateBlank}
use Rattle.ttx_certify.specs.declared.all_reasons.PageReason.{PageReason}

abbrev pub IsTrueReason : List (List ℕ) → List Page → Page → Certificate → Reason → Type 0
IsTrueReason cycle pages p w (BadSlot slot) = ⊥
IsTrueReason cycle pages p w (NoHeader page) = (page ≡ p.id) × HasNoHeader (repeated cycle) p
IsTrueReason cycle pages p w (OtherSubpage page slot) = (page ≡ p.id) × OtherSubpageAt (repeated cycle) pages p (pos slot)
IsTrueReason cycle pages p w (Erased page slot) = (page ≡ p.id) × ErasedAt (repeated cycle) p (pos slot)
IsTrueReason cycle pages p w (HeadDiffers page slot) = (page ≡ p.id) × HeadDiffersAt (repeated cycle) p (pos slot)
IsTrueReason cycle pages p w (RowDiffers page slot) = (page ≡ p.id) × RowDiffersAt (repeated cycle) p (pos slot)
IsTrueReason cycle pages p w (LinksDiffer page slot) = (page ≡ p.id) × LinksDifferAt (repeated cycle) p (pos slot)
IsTrueReason cycle pages p w (NoWitness page item) = (page ≡ p.id) × HasNoWitness p w item
IsTrueReason cycle pages p w (WitnessBad page item start) = (page ≡ p.id) × WitnessBadAt cycle p w item start
IsTrueReason cycle pages p w (Late page item start) = (page ≡ p.id) × LateAt cycle p w item start
IsTrueReason cycle pages p w Unsteady = ⊥
IsTrueReason cycle pages p w (LateBlank page item header) = (page ≡ p.id) × LateBlankAt cycle p w item header

abbrev pub HasReason : List (List ℕ) → List Page → Page → Certificate → Type 0
HasReason cycle pages p w = (reason : Reason) × IsTrueReason cycle pages p w reason

-- One for each page, in the order of the list. A page is reported with its first reason, in the order of numbers, items and slots; and
-- it is reported exactly if some reason is true of it.
pub record AreReasons (cycle : List (List ℕ)) (pages : List Page) (w : Certificate) (told : List PageReason) : Type 0 where
  pub count : length told ≡ length pages
  pub first : (n : ℕ) (p : Page) (t : PageReason) → slice_get pages n ≡ Some p → slice_get told n ≡ Some t → IsFault cycle pages p w t.reason
  pub listed : (n : ℕ) (p : Page) (t : PageReason) → slice_get pages n ≡ Some p → slice_get told n ≡ Some t →
      IsSome t.reason ↔ HasReason cycle pages p w

abbrev pub ReasonsAreTrue : Type 0
ReasonsAreTrue = (cycle : List (List ℕ)) (pages : List Page) (p : Page) (w : Certificate) (reason : Option Reason) → 0 < length cycle →
    IsCertificate w → IsFault cycle pages p w reason → IsSome reason ↔ HasReason cycle pages p w
