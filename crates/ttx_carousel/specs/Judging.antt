-- What a cycle does not keep.
--
--   IsShort                 a number stays too short
--   AreShortTo, AreShort    the numbers that stay too short, each once, by its first promise that is not kept
--   IsUnseen                the first page that no certificate accepts
--   IsLateFor, IsFirstLate  a page comes too late; the first such promise
--   IsShownOrMissed, IsShownLate    each page is shown late, or the first that never is
--   IsMissed, IsJudged      what a cycle does not keep of the rest; or all of it is kept
use Rattle.std.specs.Prelude.{◌≡◌, ◌⊎◌, ℕ, zero, suc, ◌*◌, ◌/◌, ◌<◌, Bool, true, false, ◌&&◌, ◌==◌, List, [], ◌∷◌, ◌++◌, length, slice_get, Option, Some, None}
use Rattle.std.specs.Prelude.{if◌then◌else◌}
use Rattle.std.specs.List.{list_any}
use Rattle.ttx_page.specs.Pages.{Page}
use Rattle.ttx_page.specs.declared.class.Class.{Class}
use Rattle.ttx_late.specs.Followed.{AllAreFollowed}
use Rattle.ttx_late.specs.LateVerdicts.{IsNeverShown}
use Rattle.ttx_promise.specs.Promises.{AreKept, IsKept}
use Rattle.ttx_promise.specs.declared.faults.LatePage.{LatePage}
use Rattle.ttx_promise.specs.declared.promised_plan.Viewers.{Viewers}
use Rattle.ttx_source.specs.Promises.{PromiseFields}
use Rattle.ttx_source.specs.Services.{ServiceFields, pages_of}
use Rattle.ttx_witness.specs.wait_times.PageWaits.{CanAccept, IsLeast}
use Rattle.ttx_header.specs.Ids.{Id}
use Rattle.ttx_carousel.specs.Carousels.{IsStayOf, IsStayKeptFor, IsSeen, AreSeen}
use Rattle.ttx_carousel.specs.declared.faults.ShortStay.{ShortStay}
use Rattle.ttx_carousel.specs.declared.faults.Missed.{Missed}
use Rattle.ttx_carousel.specs.declared.faults.Missed.TheVariants.{Unseen, Late, NeverShown}

-- the number of the page stays so many whole fields, and not as many as it promises
pub record IsShort (cycle : List (List ℕ)) (service : ServiceFields) (stay : PromiseFields) (short : ShortStay) : Type 0 where
  pub page : Page
  pub listed : slice_get (pages_of service) stay.page ≡ Some page
  pub number : short.number ≡ page.id
  pub slots : ℕ
  pub stay_is : IsStayOf cycle page slots
  pub fields : short.fields ≡ slots / service.lines
  pub promise : short.promise ≡ stay.fields
  pub missing : slots < stay.fields * service.lines

abbrev pub is_same_number : ShortStay → ShortStay → Bool
is_same_number one other = (one.number.mag == other.number.mag) && (one.number.page == other.number.page)

-- one more number, unless it is reported already
abbrev pub told_with : List ShortStay → ShortStay → List ShortStay
told_with told short = if list_any (is_same_number short) told then told else told ++ short ∷ []

-- a promise is kept, or its number is reported
abbrev pub IsTold : List (List ℕ) → ServiceFields → Option PromiseFields → List ShortStay → List ShortStay → Type 0
IsTold cycle service None before told = told ≡ before
IsTold cycle service (Some stay) before told =
    (IsStayKeptFor cycle service stay × (told ≡ before))
    ⊎ ((short : ShortStay) × IsShort cycle service stay short × (told ≡ told_with before short))

-- those of the first n promises
abbrev pub AreShortTo : List PromiseFields → ServiceFields → List (List ℕ) → ℕ → List ShortStay → Type 0
AreShortTo stays service cycle zero told = told ≡ []
AreShortTo stays service cycle (suc n) told =
    (before : List ShortStay) × AreShortTo stays service cycle n before × IsTold cycle service (slice_get stays n) before told

-- in the order of the promises, each number once
abbrev pub AreShort : List PromiseFields → ServiceFields → List (List ℕ) → List ShortStay → Type 0
AreShort stays service cycle told = AreShortTo stays service cycle (length stays) told

pub record IsUnseen (cycle : List (List ℕ)) (service : ServiceFields) (class : Class) (repeat : ℕ) (id : Id) : Type 0 where
  pub index : ℕ
  pub page : Page
  pub listed : slice_get (pages_of service) index ≡ Some page
  pub id_is : id ≡ page.id
  pub none : (deadline : ℕ) → CanAccept cycle (pages_of service) page class repeat service.lines deadline → ⊥
  pub before : (other : ℕ) (p : Page) → other < index → slice_get (pages_of service) other ≡ Some p → IsSeen cycle service p class repeat

-- the least deadline of the promised page is longer than the promise
pub record IsLateFor (cycle : List (List ℕ)) (service : ServiceFields) (class : Class) (repeat : ℕ) (promise : PromiseFields) (late : LatePage)
    : Type 0 where
  pub page : Page
  pub listed : slice_get (pages_of service) promise.page ≡ Some page
  pub id_is : late.page ≡ page.id
  pub least : IsLeast (CanAccept cycle (pages_of service) page class repeat service.lines) (Some late.fields)
  pub promise_is : late.promise ≡ promise.fields
  pub missing : promise.fields < late.fields

abbrev pub IsKeptFor : List (List ℕ) → ServiceFields → Class → ℕ → PromiseFields → Type 0
IsKeptFor cycle service class repeat promise = (p : Page) → slice_get (pages_of service) promise.page ≡ Some p →
    IsKept cycle (pages_of service) p class repeat service.lines promise.fields

pub record IsFirstLate (cycle : List (List ℕ)) (service : ServiceFields) (class : Class) (repeat : ℕ) (promises : List PromiseFields)
    (late : LatePage) : Type 0 where
  pub number : ℕ
  pub promise : PromiseFields
  pub at : slice_get promises number ≡ Some promise
  pub is : IsLateFor cycle service class repeat promise late
  pub before : (other : ℕ) (kept : PromiseFields) → other < number → slice_get promises other ≡ Some kept →
      IsKeptFor cycle service class repeat kept

abbrev pub IsMissed : Viewers → List PromiseFields → ServiceFields → List (List ℕ) → Missed → Type 0
IsMissed v promises service cycle (Unseen page) = IsUnseen cycle service v.receivers.class v.repeat page
IsMissed v promises service cycle (Late late) = IsFirstLate cycle service v.receivers.class v.repeat promises late
IsMissed v promises service cycle (NeverShown page slot) = (v.receivers.late ≡ true) × IsNeverShown cycle (pages_of service) page slot

abbrev pub IsShownOrMissed : List (List ℕ) → List Page → Option Missed → Type 0
IsShownOrMissed cycle pages None = AllAreFollowed cycle pages
IsShownOrMissed cycle pages (Some (Unseen page)) = ⊥
IsShownOrMissed cycle pages (Some (Late late)) = ⊥
IsShownOrMissed cycle pages (Some (NeverShown page slot)) = IsNeverShown cycle pages page slot

-- for receivers that show pages late, if there are to be such
abbrev pub IsShownLate : Bool → List (List ℕ) → List Page → Option Missed → Type 0
IsShownLate true cycle pages missed = IsShownOrMissed cycle pages missed
IsShownLate false cycle pages missed = missed ≡ None

-- all but the stays
pub record KeepsRest (v : Viewers) (promises : List PromiseFields) (service : ServiceFields) (cycle : List (List ℕ)) : Type 0 where
  pub seen : AreSeen cycle service v.receivers.class v.repeat
  pub kept : AreKept promises service v.receivers.class v.repeat cycle
  pub followed : v.receivers.late ≡ true → AllAreFollowed cycle (pages_of service)

abbrev pub IsJudged : Viewers → List PromiseFields → ServiceFields → List (List ℕ) → Option Missed → Type 0
IsJudged v promises service cycle None = KeepsRest v promises service cycle
IsJudged v promises service cycle (Some missed) = IsMissed v promises service cycle missed
