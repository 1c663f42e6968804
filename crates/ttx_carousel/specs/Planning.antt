-- What is known of each result of planning with stays.
--
--   IsCarousel, IsTooLongCarousel   a cycle with so many laps a turn; so many laps with which it might be too long, or would send no page
--   IsCarouselOrNone, IsLaidOut, IsCarouselOf       the same as answers; where the pages of a service stand
--   AreKeptWith, FallsShort         with so many laps the stays are kept; these numbers stay too short
--   most_laps               more laps are not tried: they change nothing where all pages belong to numbers with stays, and no cycle has more
--   IsAttempt               what is known of one number of laps
--   FallShortBelow          with each smaller number of laps some number stays too short
--   IsTried, IsLast, IsEnded        what is known of the last number of laps; the result once no further laps are tried
--   IsStayingCycle, IsShortPlan     the cycle with the fewest laps that keeps the stays; the numbers that stay too short with the most laps
--   IsCarouselPlan, MissesRest      a plan that keeps all; what the cycle with the fewest laps misses
--   KeepsStays, KeepsOrMisses, AnswersStays         each answer: of the stays alone, with the rest judged, and for the service as it is given and left
use Rattle.std.specs.Prelude.{◌≡◌, ◌≢◌, ◌⊎◌, ◌<◌, ◌≤◌, ℕ, suc, List, [], ◌∷◌, Option, Some, None, Vec, Result, Ok, Err, ⊤, if◌then◌else◌}
use Rattle.std.specs.declared.alloc.Global.{Global}
use Rattle.ttx_cycle.specs.Cycles.{slots_of}
use Rattle.ttx_cycle.specs.declared.cycles.Cycle.{Cycle}
use Rattle.ttx_plan.specs.Blocks.{length_bound}
use Rattle.ttx_plan.specs.Order.{CarriesInOrder, sent_in_order}
use Rattle.ttx_plan.specs.Spread.{IsSpread}
use Rattle.ttx_plan.specs.declared.asked.Receivers.{Receivers}
use Rattle.ttx_promise.specs.Promises.{Answers, HasPlan, IsRaised}
use Rattle.ttx_promise.specs.declared.promised_plan.Viewers.{Viewers}
use Rattle.ttx_source.specs.Promises.{PromiseFields}
use Rattle.ttx_source.specs.Services.{ServiceFields, pages_of}
use Rattle.ttx_carousel.specs.Carousels.{AreStaysKept, KeepsAll}
use Rattle.ttx_carousel.specs.Judging.{AreShort, IsMissed}
use Rattle.ttx_carousel.specs.Layout.{order_of, has_others, standings as standings_of, turns as turns_of_pages}
use Rattle.ttx_carousel.specs.Rounds.{AreApart}
use Rattle.ttx_carousel.specs.declared.faults.Missed.{Missed as MissedRest}
use Rattle.ttx_carousel.specs.declared.faults.ShortStay.{ShortStay}
use Rattle.ttx_carousel.specs.declared.faults.StayFault.{StayFault}
use Rattle.ttx_carousel.specs.declared.plans.Attempt.{Attempt}
use Rattle.ttx_carousel.specs.declared.carousel.Carousel.{Carousel}
use Rattle.ttx_carousel.specs.declared.plans.Attempt.TheVariants as attempt
use Rattle.ttx_carousel.specs.declared.faults.StayFault.TheVariants.{Promise, TooLong, Short, Missed, NoMemory}

-- the pages in the order of a carousel, each page at its spread place, and those of one number apart
pub record IsCarousel (r : Receivers) (stays : List PromiseFields) (service : ServiceFields) (laps : ℕ) (slots : List (List ℕ)) : Type 0 where
  pub places : List ℕ
  pub spread : IsSpread r.class service.pages places
  pub carries : CarriesInOrder (order_of service stays places laps) r.late r.class service slots
  pub apart : AreApart stays service places laps

pub record IsTooLongCarousel (r : Receivers) (stays : List PromiseFields) (service : ServiceFields) (laps : ℕ) : Type 0 where
  pub places : List ℕ
  pub spread : IsSpread r.class service.pages places
  pub long : (order_of service stays places laps ≡ [])
      ⊎ (65536 < length_bound service.lines (sent_in_order (order_of service stays places laps) r.late r.class service.pages))

abbrev pub IsCarouselOrNone : Receivers → List PromiseFields → ServiceFields → ℕ → Option Cycle → Type 0
IsCarouselOrNone r stays service laps None = IsTooLongCarousel r stays service laps
IsCarouselOrNone r stays service laps (Some cycle) = IsCarousel r stays service laps (slots_of cycle)

-- a cycle of pages in an order
abbrev pub IsLaidOut : Receivers → ServiceFields → List ℕ → Option Cycle → Type 0
IsLaidOut r service order None = (order ≡ []) ⊎ (65536 < length_bound service.lines (sent_in_order order r.late r.class service.pages))
IsLaidOut r service order (Some cycle) = CarriesInOrder order r.late r.class service (slots_of cycle)

-- where the pages of a service stand, and its turns
pub record IsCarouselOf (stays : List PromiseFields) (service : ServiceFields) (carousel : Carousel) : Type 0 where
  pub places : List ℕ
  pub spread : IsSpread carousel.receivers.class service.pages places
  pub standings : carousel.standings.items ≡ standings_of service stays places
  pub turns : carousel.turns ≡ turns_of_pages (pages_of service) stays
  pub apart : (laps : ℕ) → AreApart stays service places laps

pub record AreKeptWith (r : Receivers) (stays : List PromiseFields) (service : ServiceFields) (laps : ℕ) (slots : List (List ℕ)) : Type 0 where
  pub is : IsCarousel r stays service laps slots
  pub kept : AreStaysKept stays service slots

pub record FallsShort (r : Receivers) (stays : List PromiseFields) (service : ServiceFields) (laps : ℕ) (numbers : List ShortStay) : Type 0 where
  pub slots : List (List ℕ)
  pub is : IsCarousel r stays service laps slots
  pub are : AreShort stays service slots numbers
  pub some : numbers ≢ []

abbrev pub most_laps : ServiceFields → List PromiseFields → ℕ
most_laps service stays = if has_others (pages_of service) stays then 32768 else 1

abbrev pub IsAttempt : Receivers → List PromiseFields → ServiceFields → ℕ → Attempt → Type 0
IsAttempt r stays service laps (attempt.Kept cycle) = AreKeptWith r stays service laps (slots_of cycle)
IsAttempt r stays service laps (attempt.Short numbers) = FallsShort r stays service laps numbers.items
IsAttempt r stays service laps attempt.TooLong = IsTooLongCarousel r stays service laps
IsAttempt r stays service laps attempt.NoMemory = ⊤

abbrev pub FallShortBelow : Receivers → List PromiseFields → ServiceFields → ℕ → Type 0
FallShortBelow r stays service laps =
    (fewer : ℕ) → 1 ≤ fewer → fewer < laps → (numbers : List ShortStay) × FallsShort r stays service fewer numbers

pub record IsStayingCycle (r : Receivers) (stays : List PromiseFields) (service : ServiceFields) (slots : List (List ℕ)) : Type 0 where
  pub laps : ℕ
  pub some : 1 ≤ laps
  pub kept : AreKeptWith r stays service laps slots
  pub fewest : FallShortBelow r stays service laps

-- with so many laps, and with each smaller number, some number stays too short
pub record IsTried (r : Receivers) (stays : List PromiseFields) (service : ServiceFields) (laps : ℕ) (numbers : List ShortStay) : Type 0 where
  pub some : 1 ≤ laps
  pub short : FallsShort r stays service laps numbers
  pub fewer : FallShortBelow r stays service laps

-- with one lap more the cycle might be too long, or more laps are not tried
pub record IsShortPlan (r : Receivers) (stays : List PromiseFields) (service : ServiceFields) (numbers : List ShortStay) : Type 0 where
  pub laps : ℕ
  pub tried : IsTried r stays service laps numbers
  pub last : IsTooLongCarousel r stays service (suc laps) ⊎ (laps ≡ most_laps service stays)

-- what became of the last number of laps before the next one
abbrev pub IsLast : Receivers → List PromiseFields → ServiceFields → ℕ → Option (Vec ShortStay Global) → Type 0
IsLast r stays service next None = next ≡ 1
IsLast r stays service next (Some numbers) = (laps : ℕ) × (next ≡ suc laps) × IsTried r stays service laps numbers.items

abbrev pub IsEnded : Option (Vec ShortStay Global) → Result Cycle StayFault → Type 0
IsEnded None result = result ≡ Err TooLong
IsEnded (Some numbers) result = result ≡ Err (Short numbers)

abbrev pub KeepsStays : Receivers → List PromiseFields → ServiceFields → Result Cycle StayFault → Type 0
KeepsStays r stays service (Ok cycle) = IsStayingCycle r stays service (slots_of cycle)
KeepsStays r stays service (Err (Promise fault)) = ⊥
KeepsStays r stays service (Err TooLong) = IsTooLongCarousel r stays service 1
KeepsStays r stays service (Err (Short numbers)) = IsShortPlan r stays service numbers.items
KeepsStays r stays service (Err (Missed missed)) = ⊥
KeepsStays r stays service (Err NoMemory) = ⊤

-- the cycle that keeps the stays keeps the rest too
pub record IsCarouselPlan (v : Viewers) (promises stays : List PromiseFields) (service : ServiceFields) (slots : List (List ℕ)) : Type 0 where
  pub is : IsStayingCycle v.receivers stays service slots
  pub keeps : KeepsAll v promises stays service slots

-- it does not
pub record MissesRest (v : Viewers) (promises stays : List PromiseFields) (service : ServiceFields) (missed : MissedRest) : Type 0 where
  pub slots : List (List ℕ)
  pub is : IsStayingCycle v.receivers stays service slots
  pub misses : IsMissed v promises service slots missed

abbrev pub KeepsOrMisses : Viewers → List PromiseFields → List PromiseFields → ServiceFields → Result Cycle StayFault → Type 0
KeepsOrMisses v promises stays service (Ok cycle) = IsCarouselPlan v promises stays service (slots_of cycle)
KeepsOrMisses v promises stays service (Err (Promise fault)) = ⊥
KeepsOrMisses v promises stays service (Err TooLong) = IsTooLongCarousel v.receivers stays service 1
KeepsOrMisses v promises stays service (Err (Short numbers)) = IsShortPlan v.receivers stays service numbers.items
KeepsOrMisses v promises stays service (Err (Missed missed)) = MissesRest v promises stays service missed
KeepsOrMisses v promises stays service (Err NoMemory) = ⊤

-- Pages that have a promise may be sent more often. Without stays the plan is that of the promises.
abbrev pub AnswersStays : Viewers → List PromiseFields → List PromiseFields → ServiceFields → ServiceFields → Result Cycle StayFault → Type 0
AnswersStays v promises stays old new (Err (Promise fault)) = Answers v promises old new (Err fault)
AnswersStays v promises stays old new (Err NoMemory) = ⊤
AnswersStays v promises [] old new (Ok cycle) = Answers v promises old new (Ok cycle)
AnswersStays v promises [] old new (Err _) = ⊥
AnswersStays v promises (stay ∷ stays) old new result = HasPlan v.receivers.late v.receivers.class old × IsRaised promises old new
    × KeepsOrMisses v promises (stay ∷ stays) new result
