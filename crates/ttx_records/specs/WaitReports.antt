-- The report of `wait` on a cycle, a service and its promises, as JSON objects.
--
--   absent_pages            the pages on the air that the service lacks, which are reported beside promises
--   IsWaitRecord            the objects of the pages' waits; the deadline for all; whether a page comes too late
use Rattle.std.specs.Prelude.{◌≡◌, ℕ, Bool, List, [], ◌∷◌, Option}
use Rattle.std.specs.List.{list_any}
use Rattle.ttx_header.specs.Ids.{Id}
use Rattle.ttx_page.specs.declared.class.Class.{Class}
use Rattle.ttx_source.specs.Promises.{PromiseFields}
use Rattle.ttx_source.specs.Services.{ServiceFields, authored_ids, pages_of}
use Rattle.ttx_promise.specs.OtherPages.{other_pages}
use Rattle.ttx_promise.specs.PromisedWaits.{is_late, with_promises}
use Rattle.ttx_wait.specs.Reports.{IsFirstBad, deadline_of}
use Rattle.ttx_witness.specs.laws.WaitLaws.{greatest}
use Rattle.ttx_witness.specs.wait_times.PageWaits.{AreWaits}
use Rattle.ttx_witness.specs.declared.wait_times.wait.PageWait.{PageWait}
use Rattle.ttx_records.specs.Waits.{wait_records}

abbrev pub absent_pages : List (List ℕ) → ServiceFields → List PromiseFields → List Id
absent_pages cycle service [] = []
absent_pages cycle service (promise ∷ promises) = other_pages cycle (authored_ids service.pages)

pub record IsWaitRecord (cycle : List (List ℕ)) (service : ServiceFields) (class : Class) (repeat : ℕ) (promises : List PromiseFields)
    (text : List ℕ) (deadline : Option ℕ) (late : Bool) : Type 0 where
  pub bad : Option ℕ
  pub first_bad : IsFirstBad cycle bad
  pub told : List PageWait
  pub waits : AreWaits cycle (pages_of service) class repeat service.lines told
  pub text_is : text ≡ wait_records (with_promises 0 promises told) bad (greatest told) (absent_pages cycle service promises)
  pub deadline_is : deadline ≡ deadline_of bad (greatest told)
  pub late_is : late ≡ list_any is_late (with_promises 0 promises told)
