-- Waits of pages against promises.
--
--   told_of                 a page and its wait
--   HasFields, AllHaveFields, IsFirstWithout        a page has a deadline; so has each; the first that has none
--   IsInTime, AreInTime     a promised page has no longer deadline than its promise; so of each promise
--   IsLateIn, IsFirstLateIn it has a longer one; the first such promise
use Rattle.std.specs.Prelude.{◌≡◌, ℕ, ◌<◌, ◌≤◌, List, slice_get, Some, ⊤}
use Rattle.ttx_header.specs.Ids.{Id}
use Rattle.ttx_promise.specs.declared.faults.LatePage.{LatePage}
use Rattle.ttx_promise.specs.declared.waits_and_promises.PromisedWait.{PromisedWait}
use Rattle.ttx_source.specs.Promises.{PromiseFields}
use Rattle.ttx_witness.specs.declared.wait_times.wait.PageWait.{PageWait}
use Rattle.ttx_witness.specs.declared.wait_times.wait.Wait.{Wait}
use Rattle.ttx_witness.specs.declared.wait_times.wait.Wait.TheVariants.{Fields, Faulty, Unsure}

abbrev pub told_of : PromisedWait → PageWait
told_of one = one.told

abbrev pub HasFields : Wait → Type 0
HasFields (Fields fields item) = ⊤
HasFields (Faulty reason) = ⊥
HasFields (Unsure item losses) = ⊥

abbrev pub AllHaveFields : List PageWait → Type 0
AllHaveFields told = (index : ℕ) (one : PageWait) → slice_get told index ≡ Some one → HasFields one.wait

pub record IsFirstWithout (told : List PageWait) (page : Id) : Type 0 where
  pub index : ℕ
  pub one : PageWait
  pub at : slice_get told index ≡ Some one
  pub page_is : page ≡ one.page
  pub none : HasFields one.wait → ⊥
  pub before : (other : ℕ) (earlier : PageWait) → other < index → slice_get told other ≡ Some earlier → HasFields earlier.wait

abbrev pub IsAtMost : Wait → ℕ → Type 0
IsAtMost (Fields fields item) promise = fields ≤ promise
IsAtMost (Faulty reason) promise = ⊤
IsAtMost (Unsure item losses) promise = ⊤

abbrev pub IsInTime : List PageWait → PromiseFields → Type 0
IsInTime told promise = (one : PageWait) → slice_get told promise.page ≡ Some one → IsAtMost one.wait promise.fields

abbrev pub AreInTime : List PageWait → List PromiseFields → Type 0
AreInTime told promises = (number : ℕ) (promise : PromiseFields) → slice_get promises number ≡ Some promise → IsInTime told promise

abbrev pub TellsFields : Wait → ℕ → Type 0
TellsFields (Fields fields item) n = n ≡ fields
TellsFields (Faulty reason) n = ⊥
TellsFields (Unsure item losses) n = ⊥

pub record IsLateIn (told : List PageWait) (promise : PromiseFields) (late : LatePage) : Type 0 where
  pub one : PageWait
  pub at : slice_get told promise.page ≡ Some one
  pub page_is : late.page ≡ one.page
  pub fields_are : TellsFields one.wait late.fields
  pub promise_is : late.promise ≡ promise.fields
  pub missing : promise.fields < late.fields

pub record IsFirstLateIn (told : List PageWait) (promises : List PromiseFields) (late : LatePage) : Type 0 where
  pub number : ℕ
  pub promise : PromiseFields
  pub at : slice_get promises number ≡ Some promise
  pub is : IsLateIn told promise late
  pub before : (other : ℕ) (kept : PromiseFields) → other < number → slice_get promises other ≡ Some kept → IsInTime told kept
