-- How long viewers wait for pages, beside the promises of these pages.
--
--   is_later, is_late       a wait breaks a promise; a page has a promise that its wait breaks
--   promise_of              the fields of the first promise of the page at an index
--   with_promises           waits of pages, the first of which has this index, each beside the promise of its page
--   ArePromisedWaits        the waits for all pages of a list, beside their promises
use Rattle.std.specs.Prelude.{◌≡◌, ℕ, suc, Bool, true, false, ◌==◌, nat_lt, if◌then◌else◌, List, [], ◌∷◌, Option, Some, None}
use Rattle.ttx_page.specs.Pages.{Page}
use Rattle.ttx_page.specs.declared.class.Class.{Class}
use Rattle.ttx_source.specs.Promises.{PromiseFields}
use Rattle.ttx_witness.specs.wait_times.PageWaits.{AreWaits}
use Rattle.ttx_witness.specs.declared.wait_times.wait.PageWait.{PageWait}
use Rattle.ttx_witness.specs.declared.wait_times.wait.Wait.{Wait}
use Rattle.ttx_witness.specs.declared.wait_times.wait.Wait.TheVariants.{Fields, Faulty, Unsure}
use Rattle.ttx_promise.specs.declared.waits_and_promises.PromisedWait.{PromisedWait}

-- a page without a deadline breaks each promise
abbrev pub is_later : Wait → ℕ → Bool
is_later (Fields fields item) promise = nat_lt promise fields
is_later (Faulty reason) promise = true
is_later (Unsure item losses) promise = true

abbrev pub is_late_of : Wait → Option ℕ → Bool
is_late_of wait None = false
is_late_of wait (Some promise) = is_later wait promise

abbrev pub is_late : PromisedWait → Bool
is_late one = is_late_of one.told.wait one.promise

abbrev pub promise_of : List PromiseFields → ℕ → Option ℕ
promise_of [] page = None
promise_of (promise ∷ promises) page = if promise.page == page then Some promise.fields else promise_of promises page

abbrev pub beside : PageWait → Option ℕ → PromisedWait
beside told promise = record { told = told; promise = promise }

abbrev pub with_promises : ℕ → List PromiseFields → List PageWait → List PromisedWait
with_promises index promises [] = []
with_promises index promises (told ∷ rest) = beside told (promise_of promises index) ∷ with_promises (suc index) promises rest

pub record ArePromisedWaits (cycle : List (List ℕ)) (pages : List Page) (class : Class) (repeat lines : ℕ) (promises : List PromiseFields)
    (all : List PromisedWait) : Type 0 where
  pub told : List PageWait
  pub waits : AreWaits cycle pages class repeat lines told
  pub beside_promises : all ≡ with_promises 0 promises told
