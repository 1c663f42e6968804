-- The claim that a counter-run refutes, and what the search computes from it once. The answers are those of `Refutations`, for a page of a
-- claim.
--
--   claimed_slots, claimed_pages, claimed_numbers   the slots of its cycle, its pages, and the certificate with its numbers
--   IsPrepared              what is computed from it is right
--   own_page                the page
--   IsFaultOf, IsSentSteadily       the first reason why the page is not sent unchanged; it is sent unchanged
--   TellsSent, TellsItems, TellsAny, TellsRun       the answers about an item of the page, all its items, the page, and plain runs of it
use Rattle.std.specs.Prelude.{◌≡◌, ◌↔◌, ℕ, Bool, List, Option, IsTrue, map}
use Rattle.ttx_cycle.specs.Cycles.{slots_of}
use Rattle.ttx_page.specs.Pages.{Page}
use Rattle.ttx_page.specs.Steady.{Steady}
use Rattle.ttx_page.specs.Streams.{repeated}
use Rattle.ttx_page.specs.Views.{page_of}
use Rattle.ttx_page.specs.declared.item.Item.{Item}
use Rattle.ttx_certificate.specs.Certificates.{certificate_of}
use Rattle.ttx_witness.specs.Coverage.{Certificate}
use Rattle.ttx_witness.specs.faults.Faults.{IsPageFault, HaveFaults}
use Rattle.ttx_witness.specs.faults.OtherSubpages.{AreOtherSubpages}
use Rattle.ttx_witness.specs.declared.faults.reason.Reason.{Reason}
use Rattle.ttx_certify.specs.Verdicts.{IsClean}
use Rattle.ttx_counter.specs.Counters.{counter_run_of}
use Rattle.ttx_counter.specs.Refutations.{NamesSureStarts, TellsNeeded, TellsCovered, TellsPage, TellsPlainly}
use Rattle.ttx_counter.specs.declared.claim.Claim.{Claim}
use Rattle.ttx_counter.specs.declared.claim.ClaimedPage.{ClaimedPage}
use Rattle.ttx_counter.specs.declared.counter.Counter.{Counter}

abbrev pub claimed_slots : Claim → List (List ℕ)
claimed_slots c = slots_of c.survey.now.cycle.now

abbrev pub claimed_pages : Claim → List Page
claimed_pages c = map page_of c.survey.now.pages.now

abbrev pub claimed_numbers : Claim → Certificate
claimed_numbers c = certificate_of c.certificate.now

pub record IsPrepared (c : Claim) : Type 0 where
  pub lines : c.survey.now.lines ≡ (claimed_numbers c).lines
  pub named : NamesSureStarts (claimed_slots c) (claimed_pages c) (claimed_numbers c) (certificate_of c.found.now)
  pub others : AreOtherSubpages (claimed_slots c) (claimed_pages c) c.others.now
  pub faults : HaveFaults (claimed_slots c) (claimed_pages c) c.faults.now
  pub clean : IsTrue c.clean ↔ IsClean (claimed_slots c)

abbrev pub own_page : ClaimedPage → Page
own_page p = page_of p.page.now

abbrev pub IsFaultOf : ClaimedPage → Option Reason → Type 0
IsFaultOf p fault = IsPageFault (claimed_slots p.claim.now) (claimed_pages p.claim.now) (own_page p) fault

abbrev pub IsSentSteadily : ClaimedPage → Type 0
IsSentSteadily p = Steady (repeated (claimed_slots p.claim.now)) (claimed_pages p.claim.now) (own_page p)

abbrev pub TellsSent : ClaimedPage → Item → Option ℕ → Type 0
TellsSent p item start = TellsNeeded (claimed_slots p.claim.now) (own_page p) (claimed_numbers p.claim.now) item start

abbrev pub TellsItems : ClaimedPage → Option Counter → Type 0
TellsItems p counter = TellsCovered counter_run_of (claimed_slots p.claim.now) (claimed_pages p.claim.now) p.index (own_page p)
    (claimed_numbers p.claim.now) counter

abbrev pub TellsAny : ClaimedPage → Option Counter → Type 0
TellsAny p counter = TellsPage counter_run_of (claimed_slots p.claim.now) (claimed_pages p.claim.now) p.index (own_page p)
    (claimed_numbers p.claim.now) counter

abbrev pub TellsRun : ClaimedPage → Bool → Option Counter → Type 0
TellsRun p any_sub counter = TellsPlainly counter_run_of (claimed_slots p.claim.now) (claimed_pages p.claim.now) p.index any_sub
    (claimed_numbers p.claim.now) counter
