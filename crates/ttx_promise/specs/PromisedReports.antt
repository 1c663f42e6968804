-- The report on a cycle, a service and its promises.
--
--   IsPromisedReport        the lines of the pages' waits, with their promises; the deadline for all; whether a page comes too late
--   IsPromisedItemReport    the same with the lines of the items' waits
--   IsPromisedReportWith    either
use Rattle.std.specs.Prelude.{◌≡◌, ℕ, Bool, List, Option}
use Rattle.std.specs.List.{list_any}
use Rattle.ttx_page.specs.declared.class.Class.{Class}
use Rattle.ttx_source.specs.Promises.{PromiseFields}
use Rattle.ttx_source.specs.Services.{ServiceFields, authored_ids, pages_of}
use Rattle.ttx_wait.specs.Reports.{IsFirstBad, deadline_of}
use Rattle.ttx_wait.specs.declared.reports.Detail.{Detail}
use Rattle.ttx_wait.specs.declared.reports.Detail.TheVariants.{Pages, Items}
use Rattle.ttx_witness.specs.laws.WaitLaws.{greatest}
use Rattle.ttx_witness.specs.wait_times.ItemWaits.{AreItemWaits}
use Rattle.ttx_witness.specs.wait_times.PageWaits.{AreWaits}
use Rattle.ttx_witness.specs.declared.wait_times.wait.ItemWait.{ItemWait}
use Rattle.ttx_witness.specs.declared.wait_times.wait.PageWait.{PageWait}
use Rattle.ttx_promise.specs.OtherPages.{other_pages}
use Rattle.ttx_promise.specs.PromisedLines.{all_lines, all_item_lines}
use Rattle.ttx_promise.specs.PromisedWaits.{is_late, with_promises}

pub record IsPromisedReport (cycle : List (List ℕ)) (service : ServiceFields) (class : Class) (repeat : ℕ) (promises : List PromiseFields)
    (text : List ℕ) (deadline : Option ℕ) (late : Bool) : Type 0 where
  pub bad : Option ℕ
  pub first_bad : IsFirstBad cycle bad
  pub told : List PageWait
  pub waits : AreWaits cycle (pages_of service) class repeat service.lines told
  pub text_is : text ≡ all_lines (with_promises 0 promises told) bad (greatest told) (other_pages cycle (authored_ids service.pages))
  pub deadline_is : deadline ≡ deadline_of bad (greatest told)
  pub late_is : late ≡ list_any is_late (with_promises 0 promises told)

pub record IsPromisedItemReport (cycle : List (List ℕ)) (service : ServiceFields) (class : Class) (repeat : ℕ) (promises : List PromiseFields)
    (text : List ℕ) (deadline : Option ℕ) (late : Bool) : Type 0 where
  pub bad : Option ℕ
  pub first_bad : IsFirstBad cycle bad
  pub told : List PageWait
  pub waits : AreWaits cycle (pages_of service) class repeat service.lines told
  pub items : List (List ItemWait)
  pub item_waits : AreItemWaits cycle (pages_of service) class repeat service.lines items
  pub text_is : text ≡ all_item_lines (with_promises 0 promises told) items bad (greatest told) (other_pages cycle (authored_ids service.pages))
  pub deadline_is : deadline ≡ deadline_of bad (greatest told)
  pub late_is : late ≡ list_any is_late (with_promises 0 promises told)

abbrev pub IsPromisedReportWith :
    Detail → List (List ℕ) → ServiceFields → Class → ℕ → List PromiseFields → List ℕ → Option ℕ → Bool → Type 0
IsPromisedReportWith Pages = IsPromisedReport
IsPromisedReportWith Items = IsPromisedItemReport
