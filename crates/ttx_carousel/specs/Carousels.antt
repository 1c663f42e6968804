-- Cycles in which the subpages of a page number stay long enough to be read (profile).
--
--   IsStayOf                how many slots each page of a number stays, for receivers that show a page where it ends; 0 where none is sent
--   IsStayKept, AreStaysKept        a number stays as long as a page of it promises; so of each such promise
--   IsSeen, AreSeen         some certificate accepts a page alone; so of each page of a service
--   KeepsAll                what a plan with stays keeps
use Rattle.std.specs.Prelude.{◌≡◌, ℕ, ◌*◌, ◌≤◌, true, List, slice_get, Some}
use Rattle.ttx_page.specs.Pages.{Page}
use Rattle.ttx_page.specs.declared.class.Class.{Class}
use Rattle.ttx_page.specs.declared.selection.Selection.TheVariants.{AnySub}
use Rattle.ttx_page.specs.Streams.{repeated}
use Rattle.ttx_late.specs.Followed.{AllAreFollowed}
use Rattle.ttx_promise.specs.Promises.{AreKept}
use Rattle.ttx_promise.specs.declared.promised_plan.Viewers.{Viewers}
use Rattle.ttx_source.specs.Promises.{PromiseFields}
use Rattle.ttx_source.specs.Services.{ServiceFields, pages_of}
use Rattle.ttx_subpages.specs.NumberReports.{IsStayOrNone}
use Rattle.ttx_witness.specs.wait_times.PageWaits.{CanAccept}

abbrev pub IsStayOf : List (List ℕ) → Page → ℕ → Type 0
IsStayOf cycle p slots = IsStayOrNone (repeated cycle) (AnySub p.id.mag p.id.page) slots

-- each page of the number of this one stays so many fields
pub record IsStayKept (cycle : List (List ℕ)) (lines : ℕ) (p : Page) (fields : ℕ) : Type 0 where
  pub slots : ℕ
  pub stay : IsStayOf cycle p slots
  pub long : fields * lines ≤ slots

abbrev pub IsStayKeptFor : List (List ℕ) → ServiceFields → PromiseFields → Type 0
IsStayKeptFor cycle service stay = (p : Page) → slice_get (pages_of service) stay.page ≡ Some p → IsStayKept cycle service.lines p stay.fields

abbrev pub AreStaysKept : List PromiseFields → ServiceFields → List (List ℕ) → Type 0
AreStaysKept stays service cycle = (number : ℕ) (stay : PromiseFields) → slice_get stays number ≡ Some stay → IsStayKeptFor cycle service stay

pub record IsSeen (cycle : List (List ℕ)) (service : ServiceFields) (p : Page) (class : Class) (repeat : ℕ) : Type 0 where
  pub deadline : ℕ
  pub accepted : CanAccept cycle (pages_of service) p class repeat service.lines deadline

abbrev pub AreSeen : List (List ℕ) → ServiceFields → Class → ℕ → Type 0
AreSeen cycle service class repeat = (index : ℕ) (p : Page) → slice_get (pages_of service) index ≡ Some p → IsSeen cycle service p class repeat

-- Each page is seen, each promised page in time, and each number stays as promised; for receivers that show a page late, each page is
-- followed by another page number.
pub record KeepsAll (v : Viewers) (promises stays : List PromiseFields) (service : ServiceFields) (cycle : List (List ℕ)) : Type 0 where
  pub seen : AreSeen cycle service v.receivers.class v.repeat
  pub kept : AreKept promises service v.receivers.class v.repeat cycle
  pub long_enough : AreStaysKept stays service cycle
  pub followed : v.receivers.late ≡ true → AllAreFollowed cycle (pages_of service)
