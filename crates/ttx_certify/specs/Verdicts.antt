-- What a verdict says (profile).
--
--   IsClean                 no slot is bad
--   IsFirstFault            the first fault of the first page that has one
--   IsRefusal               the first reason why a cycle is not accepted
--   IsVerdict               the right answer for a cycle, pages and a certificate
--   Means                   each page is seen, if the verdict is Yes
use Rattle.std.specs.Prelude.{◌≡◌, ℕ, ◌<◌, true, List, [], length, slice_get, slice_index_or, Some, None}
use Rattle.ttx_packet.specs.Slots.{is_clean}
use Rattle.ttx_page.specs.Pages.{Page}
use Rattle.ttx_witness.specs.Coverage.{Certificate, Accepts}
use Rattle.ttx_witness.specs.faults.Reasons.{BadSlotAt}
use Rattle.ttx_witness.specs.faults.Faults.{IsFault}
use Rattle.ttx_witness.specs.declared.faults.reason.Reason.{Reason}
use Rattle.ttx_witness.specs.declared.faults.reason.Reason.TheVariants.{BadSlot}
use Rattle.ttx_certify.specs.Seen.{Seen}
use Rattle.ttx_certify.specs.declared.verdict.Verdict.{Verdict}
use Rattle.ttx_certify.specs.declared.verdict.Verdict.TheVariants.{Yes, No}

abbrev pub IsClean : List (List ℕ) → Type 0
IsClean cycle = (n : ℕ) → n < length cycle → is_clean (slice_index_or cycle n []) ≡ true

-- the reason is the first fault of a page, and no page before it in the list has a fault
pub record IsFirstFault (cycle : List (List ℕ)) (pages : List Page) (w : Certificate) (reason : Reason) : Type 0 where
  pub index : ℕ
  pub page : Page
  pub here : slice_get pages index ≡ Some page
  pub fault : IsFault cycle pages page w (Some reason)
  pub none_before : (i : ℕ) (p : Page) → i < index → slice_get pages i ≡ Some p → IsFault cycle pages p w None

-- a bad slot comes first
abbrev pub IsRefusal : List (List ℕ) → List Page → Certificate → Reason → Type 0
IsRefusal cycle pages w (BadSlot slot) = BadSlotAt cycle slot × ((i : ℕ) → i < slot → BadSlotAt cycle i → ⊥)
IsRefusal cycle pages w reason = IsClean cycle × IsFirstFault cycle pages w reason

abbrev pub IsVerdict : List (List ℕ) → List Page → Certificate → Verdict → Type 0
IsVerdict cycle pages w Yes = Accepts cycle pages w
IsVerdict cycle pages w (No reason) = IsRefusal cycle pages w reason × (Accepts cycle pages w → ⊥)

abbrev pub Means : List (List ℕ) → List Page → Certificate → Verdict → Type 0
Means cycle pages w Yes = (n : ℕ) (p : Page) → slice_get pages n ≡ Some p → Seen cycle pages p w
Means cycle pages w (No reason) = Unit {0}
