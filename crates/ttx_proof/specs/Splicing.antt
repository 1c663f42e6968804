-- How the verdict on a splice is found.
--
--   splice_of               the splice of two cycles, two lists of pages and two certificates
--   splice_between          that of two sides
--   AreKnown                what is known of a splice once the first three reasons are false
--   TellsPlace, TellsPlaceAt        the place of a page in a list; whether the page is at a place
--   TellsSeams, TellsLates  the first common page with a seam; the first with an item that is not bridged
--   AreSentOn               the transmissions of all items of all pages on either side, and in the first new period
--   AreBridged, TellsBridged, TellsLate     all items of a page are bridged; whether one is; the first that is not
use Rattle.std.specs.Prelude.{◌≡◌, ℕ, List, Contains, slice_get, map, Option, Some, None, Bool, true, false}
use Rattle.ttx_cycle.specs.Cycles.{slots_of}
use Rattle.ttx_cycle.specs.declared.cycles.Cycle.{Cycle}
use Rattle.ttx_page.specs.Pages.{Page, needed}
use Rattle.ttx_page.specs.Views.{page_of}
use Rattle.ttx_page.specs.declared.page.Page.{Page as PageValue}
use Rattle.ttx_page.specs.declared.item.Item.{Item}
use Rattle.ttx_witness.specs.sent.AllSent.{AreAllSent, AreSentAfter}
use Rattle.ttx_certificate.specs.Certificates.{certificate_of}
use Rattle.ttx_witness.specs.Coverage as coverage
use Rattle.ttx_certificate.specs.declared.certificates.Certificate.{Certificate}
use Rattle.ttx_proof.specs.Splices.{Splice, IsCommon, HasSeam, IsBridged, NumbersAgree}
use Rattle.ttx_proof.specs.Laws.{IsSplice, BothAccepted}
use Rattle.ttx_proof.specs.Verdicts.{NoSeam, IsUnbridged, IsFirstSeam, IsFirstLate, IsFirstSeamReason, IsFirstLateReason}
use Rattle.ttx_proof.specs.declared.verdict.SpliceReason.{SpliceReason}
use Rattle.ttx_proof.specs.declared.lates.CommonPage.{CommonPage}
use Rattle.ttx_proof.specs.declared.lates.Sent.{Sent}
use Rattle.ttx_proof.specs.declared.sides.Sides.{Sides}

abbrev pub splice_at : List (List ℕ) → List (List ℕ) → List Page → List Page → coverage.Certificate → coverage.Certificate → Splice
splice_at old new old_pages new_pages v w = record {
  old = old;
  new = new;
  old_pages = old_pages;
  new_pages = new_pages;
  old_certificate = v;
  new_certificate = w;
}

abbrev pub splice_of : Cycle → Cycle → List PageValue → List PageValue → Certificate → Certificate → Splice
splice_of old new old_pages new_pages v w = splice_at (slots_of old) (slots_of new) (map page_of old_pages) (map page_of new_pages)
    (certificate_of v) (certificate_of w)

abbrev pub splice_between : Sides → Splice
splice_between sides =
    splice_of sides.old.cycle.now sides.new.cycle.now sides.old.pages.now sides.new.pages.now sides.old.certificate.now sides.new.certificate.now

pub record AreKnown (c : Splice) : Type 0 where
  pub splice : IsSplice c
  pub accepted : BothAccepted c
  pub alike : NumbersAgree c.old_certificate c.new_certificate

-- the place of an equal page
abbrev pub TellsPlace : List Page → Page → Option ℕ → Type 0
TellsPlace pages p None = Contains pages p → ⊥
TellsPlace pages p (Some place) = slice_get pages place ≡ Some p

-- whether an equal page is at this place
abbrev pub TellsPlaceAt : List Page → Page → ℕ → Option ℕ → Type 0
TellsPlaceAt pages p place None = slice_get pages place ≡ Some p → ⊥
TellsPlaceAt pages p place (Some at) = (at ≡ place) × (slice_get pages place ≡ Some p)

-- the seam of a page, if it is common
abbrev pub TellsSeamOf : Splice → Page → Option ℕ → Type 0
TellsSeamOf c p None = IsCommon c p → HasSeam c p → ⊥
TellsSeamOf c p (Some slot) = IsCommon c p × IsFirstSeam c p slot

abbrev pub TellsSeams : Splice → Option SpliceReason → Type 0
TellsSeams c None = NoSeam c
TellsSeams c (Some reason) = IsFirstSeamReason c reason

pub record AreSentOn (c : Splice) (sent : Sent) : Type 0 where
  pub old : AreAllSent c.old c.old_pages c.new_certificate.lines sent.olds
  pub middle : AreSentAfter c.old c.new c.new_pages c.new_certificate.lines sent.middle
  pub new : AreAllSent c.new c.new_pages c.new_certificate.lines sent.news

-- the places of a common page in the two lists
pub record StandsAt (c : Splice) (p : Page) (at index : ℕ) : Type 0 where
  pub old : slice_get c.old_pages at ≡ Some p
  pub new : slice_get c.new_pages index ≡ Some p

abbrev pub StandsIn : Splice → CommonPage → Type 0
StandsIn c common = StandsAt c (page_of common.page.now) common.old_place common.new_place

-- each item that a viewer sees of the page is bridged
abbrev pub AreBridged : Splice → Page → Type 0
AreBridged c p = (item : Item) → needed p item ≡ true → IsBridged c p item

-- true: a viewer sees the item, and it is not bridged; false: it is bridged, if a viewer sees it
abbrev pub TellsBridged : Splice → Page → Item → Bool → Type 0
TellsBridged c p item true = IsUnbridged c p item
TellsBridged c p item false = needed p item ≡ true → IsBridged c p item

-- the first item of a page that is not bridged
abbrev pub TellsLate : Splice → Page → Option Item → Type 0
TellsLate c p None = AreBridged c p
TellsLate c p (Some item) = IsFirstLate c p item

-- the same if the page is common
abbrev pub TellsLateOf : Splice → Page → Option Item → Type 0
TellsLateOf c p None = IsCommon c p → AreBridged c p
TellsLateOf c p (Some item) = IsCommon c p × IsFirstLate c p item

abbrev pub TellsLates : Splice → Option SpliceReason → Type 0
TellsLates c None = (p : Page) → IsCommon c p → AreBridged c p
TellsLates c (Some reason) = IsFirstLateReason c reason
