-- Spread plans that keep promises.
--
--   IsSpreadFor             a cycle that carries a service to receivers, each page at its spread place
--   IsKept, AreKept         a viewer of the promised page sees it within the fields of the promise
--   IsRaisedAt, IsRaised    a service whose pages with a promise, and without a key `often`, may be sent more often than in another
--   raised                  a service with one page sent twice as often
--   IsAtItsEnd              no page that comes too late can be sent more often
--   IsMissed, KeepsPromises the pages that come too late in a plan at its end; a plan in which none does
--   HasPlan, Answers, Ends  a service that has a plan; what is known of each answer
--   room                    by how much all pages together are sent less often than 8 times
--   TriesToRaise, RaisesLatest, IsJudged, Improves      the parts of a step, and a step
use Rattle.std.specs.Prelude.{◌≡◌, ◌≢◌, ◌⊎◌, ℕ, ◌+◌, ◌-◌, ◌*◌, ◌<◌, ◌≤◌, Bool, true, false, List, [], ◌∷◌, map, slice_get, Option, Some, None}
use Rattle.std.specs.Prelude.{Result, Ok, Err, ⊤}
use Rattle.ttx_cycle.specs.Cycles.{slots_of}
use Rattle.ttx_cycle.specs.declared.cycles.Cycle.{Cycle}
use Rattle.ttx_page.specs.Pages.{Page}
use Rattle.ttx_page.specs.declared.class.Class.{Class}
use Rattle.ttx_plan.specs.Acceptance.{IsAcceptedForEach, IsPlanned}
use Rattle.ttx_plan.specs.Following.{AreFollowed}
use Rattle.ttx_plan.specs.Spread.{IsSpreadPlan, IsTooLongSpread}
use Rattle.ttx_source.specs.Promises.{PromiseFields}
use Rattle.ttx_source.specs.Services.{Authored, ServiceFields, pages_of, with_often}
use Rattle.ttx_witness.specs.wait_times.PageWaits.{CanAccept}
use Rattle.ttx_promise.specs.Deadlines.{AreDeadlines}
use Rattle.ttx_promise.specs.Lateness.{often_at, NoneMayRise, IsLatest, LateFields, late_of}
use Rattle.ttx_promise.specs.Views.{late_view}
use Rattle.ttx_promise.specs.declared.faults.PromiseFault.{PromiseFault}
use Rattle.ttx_promise.specs.declared.faults.PromiseFault.TheVariants.{NoPages, TooLong, Late, NoMemory}
use Rattle.ttx_promise.specs.declared.promised_plan.Viewers.{Viewers}
use Rattle.ttx_promise.specs.declared.promised_plan.Missed.{Missed}
use Rattle.ttx_promise.specs.declared.promised_plan.Missed.TheVariants as missed
use Rattle.ttx_promise.specs.declared.promised_plan.Improved.{Improved}
use Rattle.ttx_promise.specs.declared.promised_plan.Improved.TheVariants as improved

-- what is known of each plan that `plan_spread` makes
pub record IsSpreadFor (late : Bool) (class : Class) (service : ServiceFields) (cycle : List (List ℕ)) : Type 0 where
  pub carries : IsSpreadPlan late class service cycle
  pub planned : IsPlanned late class service cycle
  pub accepted : IsAcceptedForEach class service cycle
  pub followed : late ≡ true → AreFollowed cycle (pages_of service)

-- with a deadline of at most the promise the page alone is accepted
pub record IsKept (cycle : List (List ℕ)) (pages : List Page) (p : Page) (class : Class) (repeat lines promise : ℕ) : Type 0 where
  pub deadline : ℕ
  pub in_time : deadline ≤ promise
  pub accepted : CanAccept cycle pages p class repeat lines deadline

abbrev pub AreKept : List PromiseFields → ServiceFields → Class → ℕ → List (List ℕ) → Type 0
AreKept promises service class repeat cycle = (number : ℕ) (promise : PromiseFields) → slice_get promises number ≡ Some promise →
    (p : Page) → slice_get (pages_of service) promise.page ≡ Some p →
    IsKept cycle (pages_of service) p class repeat service.lines promise.fields

-- a promise of the page at an index, which has no key `often`
pub record MayRise (promises : List PromiseFields) (index : ℕ) : Type 0 where
  pub number : ℕ
  pub promise : PromiseFields
  pub at : slice_get promises number ≡ Some promise
  pub page : promise.page ≡ index
  pub free : promise.fixed ≡ false

-- the page at an index is the same, and is sent as often as before if it may not be sent more often
pub record IsRaisedAt (promises : List PromiseFields) (index : ℕ) (old new : Authored) : Type 0 where
  pub page : new.page ≡ old.page
  pub often : (new.often ≡ old.often) ⊎ MayRise promises index × (old.often < new.often)

abbrev pub AreRaised : List PromiseFields → ℕ → List Authored → List Authored → Type 0
AreRaised promises index [] [] = ⊤
AreRaised promises index [] (page ∷ pages) = ⊥
AreRaised promises index (page ∷ pages) [] = ⊥
AreRaised promises index (old ∷ olds) (new ∷ news) = IsRaisedAt promises index old new × AreRaised promises (1 + index) olds news

pub record IsRaised (promises : List PromiseFields) (old new : ServiceFields) : Type 0 where
  pub lines : new.lines ≡ old.lines
  pub serial : new.serial ≡ old.serial
  pub info : new.info ≡ old.info
  pub pages : AreRaised promises 0 old.pages new.pages

-- the page at an index sent twice as often
abbrev pub raised : ServiceFields → ℕ → ServiceFields
raised service index = with_often service index (2 * often_at service.pages index)

-- the latest page sent twice as often, the cycle might be too long
pub record IsTooLongRaised (late : Bool) (class : Class) (service : ServiceFields) (deadlines : List ℕ) (promises : List PromiseFields) : Type 0 where
  pub number : ℕ
  pub latest : IsLatest service.pages deadlines promises number
  pub long : IsTooLongSpread late class (raised service latest.promise.page)

-- no page that comes too late can be sent more often
abbrev pub IsAtItsEnd : Bool → Class → ServiceFields → List ℕ → List PromiseFields → Type 0
IsAtItsEnd late class service deadlines promises =
    NoneMayRise service.pages deadlines promises ⊎ IsTooLongRaised late class service deadlines promises

-- the pages that come too late in a plan, of which none can be sent more often
pub record IsMissed (v : Viewers) (promises : List PromiseFields) (service : ServiceFields) (cycle : List (List ℕ))
    (pages : List LateFields) : Type 0 where
  pub plan : IsSpreadFor v.receivers.late v.receivers.class service cycle
  pub deadlines : List ℕ
  pub are : AreDeadlines cycle (pages_of service) v.receivers.class v.repeat service.lines deadlines
  pub pages_are : pages ≡ late_of (pages_of service) deadlines promises
  pub some : pages ≢ []
  pub end : IsAtItsEnd v.receivers.late v.receivers.class service deadlines promises

-- a cycle is a plan of the service, and keeps each promise
pub record KeepsPromises (v : Viewers) (promises : List PromiseFields) (service : ServiceFields) (cycle : List (List ℕ)) : Type 0 where
  pub plan : IsSpreadFor v.receivers.late v.receivers.class service cycle
  pub kept : AreKept promises service v.receivers.class v.repeat cycle

-- a service that isn't without pages, and whose own plan isn't too long
pub record HasPlan (late : Bool) (class : Class) (service : ServiceFields) : Type 0 where
  pub some : service.pages ≢ []
  pub fits : IsTooLongSpread late class service → ⊥

-- each answer for the service as it was given, and as it is left
abbrev pub Answers : Viewers → List PromiseFields → ServiceFields → ServiceFields → Result Cycle PromiseFault → Type 0
Answers v promises old new (Ok cycle) =
    HasPlan v.receivers.late v.receivers.class old × IsRaised promises old new × KeepsPromises v promises new (slots_of cycle)
Answers v promises old new (Err NoPages) = (old.pages ≡ []) × (new ≡ old)
Answers v promises old new (Err TooLong) = IsTooLongSpread v.receivers.late v.receivers.class old × (new ≡ old)
Answers v promises old new (Err (Late pages)) = HasPlan v.receivers.late v.receivers.class old × IsRaised promises old new
    × ((cycle : List (List ℕ)) × IsMissed v promises new cycle (map late_view pages.items))
Answers v promises old new (Err NoMemory) = ⊤

-- the same for a service that has a plan
abbrev pub Ends : Viewers → List PromiseFields → ServiceFields → ServiceFields → Result Cycle Missed → Type 0
Ends v promises old new (Ok cycle) = IsRaised promises old new × KeepsPromises v promises new (slots_of cycle)
Ends v promises old new (Err (missed.Late pages)) =
    IsRaised promises old new × ((cycle : List (List ℕ)) × IsMissed v promises new cycle (map late_view pages.items))
Ends v promises old new (Err missed.NoMemory) = ⊤

abbrev pub room : List Authored → ℕ
room [] = 0
room (page ∷ pages) = (8 - page.often) + room pages

-- one page sent twice as often, or not, since the cycle might be too long
abbrev pub TriesToRaise : Bool → Class → ℕ → ServiceFields → ServiceFields → Option Cycle → Type 0
TriesToRaise late class index old new None = (new ≡ old) × IsTooLongSpread late class (raised old index)
TriesToRaise late class index old new (Some cycle) = (new ≡ raised old index) × IsSpreadFor late class new (slots_of cycle)

-- the page that is the latest sent twice as often, or not, since no page can be
abbrev pub RaisesLatest : Bool → Class → List ℕ → List PromiseFields → ServiceFields → ServiceFields → Option Cycle → Type 0
RaisesLatest late class deadlines promises old new None = (new ≡ old) × IsAtItsEnd late class old deadlines promises
RaisesLatest late class deadlines promises old new (Some cycle) =
    IsRaised promises old new × (room new.pages < room old.pages) × IsSpreadFor late class new (slots_of cycle)

-- the result for a plan that is not improved
abbrev pub IsJudged : List Page → List ℕ → List PromiseFields → Improved → Type 0
IsJudged pages deadlines promises improved.Kept = late_of pages deadlines promises ≡ []
IsJudged pages deadlines promises (improved.Raised next) = ⊥
IsJudged pages deadlines promises (improved.Late late) =
    (map late_view late.items ≡ late_of pages deadlines promises) × (map late_view late.items ≢ [])

-- a step: nothing, where each promise is kept or no page can be sent more often
abbrev pub Improves : Viewers → List PromiseFields → ServiceFields → ServiceFields → List (List ℕ) → Improved → Type 0
Improves v promises old new cycle improved.Kept = (new ≡ old) × KeepsPromises v promises old cycle
Improves v promises old new cycle (improved.Raised next) = IsRaised promises old new × (room new.pages < room old.pages)
    × IsSpreadFor v.receivers.late v.receivers.class new (slots_of next)
Improves v promises old new cycle (improved.Late pages) = (new ≡ old) × IsMissed v promises old cycle (map late_view pages.items)
