-- The reasons 8 to 10 and 12, which concern the starts that are named for a page's items, and the first true one.
--
--   reason_number, start_in     the number of a reason; the start or header that it names, otherwise 0
--   IsTrueOf                one of these reasons is true of an item
--   IsFine                  none of them is
--   IsFirstReason, IsItemReason     the first true one for an item
--   IsFirstBelow, IsReasonBelow     the first true one for the items with smaller numbers
--   IsReasonAt              the first true one for the item with a number
--   told_first              the first of two reasons
--   judged_page, judged_certificate, IsReady        what the items of a page are judged by
--   IsReadyAt               the same for a page of a pass that has ended
use Rattle.std.specs.Prelude.{◌≡◌, ◌⊎◌, ℕ, ◌<◌, ◌≤◌, nat_lt, true, if◌then◌else◌, List, length, slice_get, Option, Some, None}
use Rattle.ttx_page.specs.Pages.{Page, needed}
use Rattle.ttx_page.specs.Views.{page_of}
use Rattle.ttx_page.specs.declared.class.Class.TheVariants.{Clearing}
use Rattle.ttx_page.specs.declared.item.Item.{Item}
use Rattle.ttx_certificate.specs.Certificates.{certificate_of}
use Rattle.ttx_witness.specs.sent.Collected.{item_number, IsItem}
use Rattle.ttx_witness.specs.Coverage.{Certificate, IsCovered, IsLeftOut}
use Rattle.ttx_witness.specs.laws.JudgingLaws.{IsHeaderAnswer}
use Rattle.ttx_certify.specs.walks.Passing.{IsEnded, ended_pages, ended_certificate}
use Rattle.ttx_witness.specs.faults.Reasons.{HasNoWitness, WitnessBadAt, LateAt, LateBlankAt}
use Rattle.ttx_certify.specs.declared.walks.page_results.EndedWalk.{EndedWalk}
use Rattle.ttx_witness.specs.declared.faults.reason.Reason.{Reason}
use Rattle.ttx_witness.specs.declared.faults.reason.Reason.TheVariants.{BadSlot, NoHeader, OtherSubpage, Erased, HeadDiffers, RowDiffers, LinksDiffer}
use Rattle.ttx_witness.specs.declared.faults.reason.Reason.TheVariants.{NoWitness, WitnessBad, Late, Unsteady, LateBlank}
use Rattle.ttx_certify.specs.declared.item_reasons.JudgedPage.{JudgedPage}

abbrev pub reason_number : Reason → ℕ
reason_number (BadSlot slot) = 1
reason_number (NoHeader page) = 2
reason_number (OtherSubpage page slot) = 3
reason_number (Erased page slot) = 4
reason_number (HeadDiffers page slot) = 5
reason_number (RowDiffers page slot) = 6
reason_number (LinksDiffer page slot) = 7
reason_number (NoWitness page item) = 8
reason_number (WitnessBad page item start) = 9
reason_number (Late page item start) = 10
reason_number Unsteady = 11
reason_number (LateBlank page item header) = 12

abbrev pub start_in : Reason → ℕ
start_in (WitnessBad page item start) = start
start_in (Late page item start) = start
start_in (LateBlank page item header) = header
start_in reason = 0

-- the reason concerns this item of the page, and is true
abbrev pub IsTrueOf : List (List ℕ) → Page → Certificate → Item → Reason → Type 0
IsTrueOf cycle p w item (NoWitness page of) = (page ≡ p.id) × (of ≡ item) × HasNoWitness p w item
IsTrueOf cycle p w item (WitnessBad page of start) = (page ≡ p.id) × (of ≡ item) × WitnessBadAt cycle p w item start
IsTrueOf cycle p w item (Late page of start) = (page ≡ p.id) × (of ≡ item) × LateAt cycle p w item start
IsTrueOf cycle p w item (LateBlank page of header) = (page ≡ p.id) × (of ≡ item) × LateBlankAt cycle p w item header
IsTrueOf cycle p w item reason = ⊥

pub record IsFine (cycle : List (List ℕ)) (p : Page) (w : Certificate) (item : Item) : Type 0 where
  pub none : (reason : Reason) → IsTrueOf cycle p w item reason → ⊥
  pub covered : needed p item ≡ true → IsCovered cycle p w item ⊎ IsLeftOut cycle p w item

-- the reason is true, no reason with a smaller number is, and it is not true at a smaller start
pub record IsFirstReason (cycle : List (List ℕ)) (p : Page) (w : Certificate) (item : Item) (reason : Reason) : Type 0 where
  pub here : IsTrueOf cycle p w item reason
  pub no_start : (other : Reason) → IsTrueOf cycle p w item other → reason_number other ≡ reason_number reason → start_in other < start_in reason → ⊥
  pub no_number : (other : Reason) → IsTrueOf cycle p w item other → reason_number other < reason_number reason → ⊥

abbrev pub IsItemReason : List (List ℕ) → Page → Certificate → Item → Option Reason → Type 0
IsItemReason cycle p w item None = IsFine cycle p w item
IsItemReason cycle p w item (Some reason) = IsFirstReason cycle p w item reason

-- the same for the items whose numbers are below count; the reason is not true of an item before its own
pub record IsFirstBelow (cycle : List (List ℕ)) (p : Page) (w : Certificate) (count : ℕ) (reason : Reason) : Type 0 where
  pub item : Item
  pub within : item_number item < count
  pub first : IsFirstReason cycle p w item reason
  pub no_item : (before : Item) (other : Reason) → IsTrueOf cycle p w before other → item_number before < item_number item →
      reason_number other ≡ reason_number reason → ⊥
  pub no_number : (any : Item) (other : Reason) → IsTrueOf cycle p w any other → item_number any < count →
      reason_number other < reason_number reason → ⊥

abbrev pub IsReasonBelow : List (List ℕ) → Page → Certificate → ℕ → Option Reason → Type 0
IsReasonBelow cycle p w count None = (item : Item) → item_number item < count → IsFine cycle p w item
IsReasonBelow cycle p w count (Some reason) = IsFirstBelow cycle p w count reason

pub record IsReasonAt (cycle : List (List ℕ)) (p : Page) (w : Certificate) (number : ℕ) (reason : Option Reason) : Type 0 where
  pub item : Item
  pub is : IsItem item
  pub place : item_number item ≡ number
  pub first : IsItemReason cycle p w item reason

-- the earlier item's reason, unless the later item's has a smaller number
abbrev pub told_first : Option Reason → Option Reason → Option Reason
told_first earlier None = earlier
told_first None (Some next) = Some next
told_first (Some earlier) (Some next) = if nat_lt (reason_number next) (reason_number earlier) then Some next else Some earlier

abbrev pub judged_page : JudgedPage → Page
judged_page judged = page_of judged.page.now

abbrev pub judged_certificate : JudgedPage → Certificate
judged_certificate judged = certificate_of judged.certificate.now

-- what is kept beside the page comes from this list of slots
pub record IsReady (judged : JudgedPage) (y : List (List ℕ)) : Type 0 where
  pub some : 1 ≤ length y
  pub period : judged.period ≡ length y
  pub late_header : (judged_certificate judged).class ≡ Clearing →
      IsHeaderAnswer y (judged_page judged) (judged_certificate judged) judged.late_header

-- the page is the one at the index of a pass that has ended
pub record IsReadyAt (ended : EndedWalk) (index : ℕ) (judged : JudgedPage) (y : List (List ℕ)) : Type 0 where
  pub ended_is : IsEnded ended y
  pub page : slice_get (ended_pages ended) index ≡ Some (judged_page judged)
  pub certificate : judged_certificate judged ≡ ended_certificate ended
  pub ready : IsReady judged y
