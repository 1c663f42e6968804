-- Plans of carousels: what becomes of each number of laps, and of all.
use Rattle.std.proofs.Common.{◌≡◌, ◌≢◌, ◌⊎◌, ℕ, zero, suc, ◌+◌, ◌*◌, ◌<◌, ◌≤◌, Bool, true, false, cond, eqb, List, [], ◌∷◌, ◌++◌, length, map, get_or}
use Rattle.std.proofs.Common.{Option, Some, None, Result, Ok, Err, refl, sym, ap, ◌∙◌, subst, arith, inl, inr}
use Rattle.std.specs.Prelude.{slice_get, sum_by, Vec, IfOk}
use Rattle.std.specs.declared.alloc.Global.{Global}
use Rattle.std.proofs.lemmas.Bool.{cases_eq}
use Rattle.std.proofs.lemmas.List.{length-append, length-map}
use Rattle.std.proofs.lemmas.List.Sums.{sum_by-cons}
use Rattle.ttx_cycle.specs.Cycles.{slots_of}
use Rattle.ttx_cycle.specs.declared.cycles.Cycle.{Cycle}
use Rattle.ttx_page.specs.Pages.{Page}
use Rattle.ttx_page.specs.declared.class.Class.{Class}
use Rattle.ttx_plan.specs.Blocks.{Block, with_fillers, packets_in, used_queues, length_bound}
use Rattle.ttx_plan.specs.Carries.{blocks_of, block_at}
use Rattle.ttx_plan.specs.Order.{picked, some_block, sent_in_order, CarriesInOrder}
use Rattle.ttx_plan.specs.declared.asked.Receivers.{Receivers}
use Rattle.ttx_promise.specs.Promises.{Answers, HasPlan, IsRaised}
use Rattle.ttx_promise.specs.declared.promised_plan.Viewers.{Viewers}
use Rattle.ttx_source.specs.Promises.{PromiseFields}
use Rattle.ttx_source.specs.PromiseViews.{promise_view}
use Rattle.ttx_source.specs.declared.promises.Promise.{Promise as PromiseValue}
use Rattle.ttx_source.specs.Services.{Authored, ServiceFields, pages_of}
use Rattle.ttx_carousel.specs.Layout.{standings, standings_to, standing_at, turns, order, order_of}
use Rattle.ttx_carousel.specs.Orders.{AreBelow}
use Rattle.ttx_carousel.specs.Planning.{IsCarousel, IsTooLongCarousel, IsCarouselOrNone, IsLaidOut, IsCarouselOf, AreKeptWith, FallsShort}
use Rattle.ttx_carousel.specs.Planning.{most_laps, FallShortBelow, IsTried, IsLast, IsEnded, KeepsStays, KeepsOrMisses, AnswersStays}
use Rattle.ttx_carousel.specs.declared.faults.ShortStay.{ShortStay}
use Rattle.ttx_carousel.specs.declared.faults.StayFault.{StayFault}
use Rattle.ttx_carousel.specs.declared.faults.StayFault.TheVariants.{Promise, TooLong, Short, Missed, NoMemory}
use Rattle.ttx_carousel.specs.declared.carousel.Carousel.{Carousel}
use Rattle.ttx_carousel.proofs.CarouselLayout.{below_order}

-- an order of more than 65,536 blocks is too long

length_fillers : (late : Bool) (before blocks : List Block) → length (with_fillers late before blocks) ≡ length blocks
length_fillers late before [] = refl
length_fillers late before (block ∷ blocks) = ap suc (length_fillers late (block ∷ before) blocks)

one_picked : (blocks : List Block) (index : ℕ) → index < length blocks → length (some_block (slice_get blocks index)) ≡ 1
one_picked [] index lt = absurd (omega (arith, lt))
one_picked (block ∷ blocks) zero lt = refl
one_picked (block ∷ blocks) (suc index) lt = one_picked blocks index (omega (arith, lt))

length_picked : (blocks : List Block) (xs : List ℕ) → AreBelow (length blocks) xs → length (picked blocks xs) ≡ length xs
length_picked blocks [] below = refl
length_picked blocks (x ∷ xs) below =
    let one = one_picked blocks x (below 0 (omega arith)) in
    let rest = length_picked blocks xs (λ k lt. below (suc k) (omega (arith, lt))) in
    let sum = length-append (some_block (slice_get blocks x)) (picked blocks xs) in
    omega (arith, one, rest, sum)

packets_enough : (sent : List Block) → length sent ≤ packets_in sent
packets_enough [] = omega arith
packets_enough (block ∷ sent) =
    let rest = packets_enough sent in
    let sum = sum_by-cons (λ (b : Block). cond b.filler 1 0 + (length b.rest + 1)) block sent in
    omega (arith, rest, sum)

long_bound : (lines : ℕ) (sent : List Block) → 65536 < length sent → 65536 < length_bound lines sent
long_bound lines sent lt = let enough = packets_enough sent in omega (arith, enough, lt)

pub length_standings : (service : ServiceFields) (stays : List PromiseFields) (places : List ℕ) (n : ℕ) → n ≤ length service.pages →
    length (standings_to service stays places n) ≡ n
length_standings service stays places zero le = refl
length_standings service stays places (suc n) le =
    let rest = length_standings service stays places n (omega arith) in
    let sum = length-append (standings_to service stays places n) (standing_at (pages_of service) stays places n (slice_get service.pages n)) in
    let one = length_standing n (slice_get service.pages n) (there service.pages n (omega arith)) in
    omega (arith, rest, sum, one)
  where
    there : {A : Type 0} (xs : List A) (i : ℕ) → i < length xs → (x : A) × (slice_get xs i ≡ Some x)
    there [] i lt = absurd (omega (arith, lt))
    there (x ∷ xs) zero lt = (x, refl)
    there (x ∷ xs) (suc i) lt = there xs i (omega (arith, lt))

    length_standing : (i : ℕ) (o : Option Authored) → (x : Authored) × (o ≡ Some x) → length (standing_at (pages_of service) stays places i o) ≡ 1
    length_standing i None h = let e : None ≡ Some h.0 = h.1 in cc
    length_standing i (Some x) h = refl

module _ (stays : List PromiseFields) (service : ServiceFields) (carousel : Carousel) (is : IsCarouselOf stays service carousel) (laps : ℕ) where
  abbrev r : Receivers
  r = carousel.receivers

  order_is : order carousel.standings.items carousel.turns laps ≡ order_of service stays is.places laps
  order_is =
      ap (λ s. order s carousel.turns laps) is.standings ∙ ap (λ t. order (standings service stays is.places) t laps) is.turns

  pub standings_count : length carousel.standings.items ≡ length service.pages
  standings_count = ap length is.standings ∙ length_standings service stays is.places (length service.pages) (omega arith)

  pub laid_out : (items : List ℕ) → items ≡ order carousel.standings.items carousel.turns laps → (cycle : Option Cycle) →
      IsLaidOut r service items cycle → IsCarouselOrNone r stays service laps cycle
  laid_out items e None h = record {
    places = is.places;
    spread = is.spread;
    long = subst (λ o. (o ≡ []) ⊎ (65536 < length_bound service.lines (sent_in_order o r.late r.class service.pages))) (e ∙ order_is) h;
  }
  laid_out items e (Some cycle) h = record {
    places = is.places;
    spread = is.spread;
    carries = subst (λ o. CarriesInOrder o r.late r.class service (slots_of cycle)) (e ∙ order_is) h;
    apart = is.apart laps;
  }

  pub laid_out_if_ok : {E : Type 0} (items : List ℕ) → items ≡ order carousel.standings.items carousel.turns laps →
      (result : Result (Option Cycle) E) → IfOk result (IsLaidOut r service items) → IfOk result (IsCarouselOrNone r stays service laps)
  laid_out_if_ok items e (Ok cycle) h = laid_out items e cycle h
  laid_out_if_ok items e (Err why) h = tt

  pub too_many : 65536 < length (order carousel.standings.items carousel.turns laps) → IsTooLongCarousel r stays service laps
  too_many lt =
      let here = order carousel.standings.items carousel.turns laps in
      let blocks = blocks_of r.class service.pages in
      let count = standings_count in
      let size : length blocks ≡ length service.pages = length-map service.pages (block_at r.class) in
      let below : AreBelow (length blocks) here =
      subst (λ n. AreBelow n here) (count ∙ sym size) (below_order carousel.standings.items laps (8 * laps * carousel.turns)) in
      let picks = length_picked blocks here below in
      let sent = length_fillers r.late [] (picked blocks here) in
      let bound : 65536 < length_bound service.lines (sent_in_order here r.late r.class service.pages) =
      long_bound service.lines (sent_in_order here r.late r.class service.pages) (omega (arith, lt, picks, sent)) in
      record {
        places = is.places;
        spread = is.spread;
        long = inr (subst (λ o. 65536 < length_bound service.lines (sent_in_order o r.late r.class service.pages)) order_is bound);
      }

-- one number of laps after another

module _ (r : Receivers) (stays : List PromiseFields) (service : ServiceFields) where
  below_last : (next : ℕ) (last : Option (Vec ShortStay Global)) → IsLast r stays service next last → FallShortBelow r stays service next
  below_last next None e fewer some lt = absurd (omega (arith, e, some, lt))
  below_last next (Some numbers) h fewer some lt = elim (cases_eq fewer h.0) [
    | inl same ↦ (numbers.items, subst (λ n. FallsShort r stays service n numbers.items) (sym same) h.2.short)
    | inr apart ↦ let e = h.1 in h.2.fewer fewer some (omega (arith, lt, apart, e))
  ]

  pub kept_at : (next : ℕ) (last : Option (Vec ShortStay Global)) → IsLast r stays service next last → 1 ≤ next → (cycle : Cycle) →
      AreKeptWith r stays service next (slots_of cycle) → KeepsStays r stays service (Ok cycle)
  kept_at next last h some cycle kept = record { laps = next; some = some; kept = kept; fewest = below_last next last h }

  pub next_last : (next : ℕ) (last : Option (Vec ShortStay Global)) → IsLast r stays service next last → 1 ≤ next →
      (numbers : Vec ShortStay Global) → FallsShort r stays service next numbers.items → IsLast r stays service (next + 1) (Some numbers)
  next_last next last h some numbers short =
      (next, omega arith, record { some = some; short = short; fewer = below_last next last h })

  pub ended_long : (next : ℕ) (last : Option (Vec ShortStay Global)) → IsLast r stays service next last → IsTooLongCarousel r stays service next →
      (result : Result Cycle StayFault) → IsEnded last result → KeepsStays r stays service result
  ended_long next None e long result ended =
      subst (KeepsStays r stays service) (sym ended) (subst (IsTooLongCarousel r stays service) e long)
  ended_long next (Some numbers) h long result ended =
      subst (KeepsStays r stays service) (sym ended)
      (record { laps = h.0; tried = h.2; last = inl (subst (IsTooLongCarousel r stays service) h.1 long) })

  pub ended_most : (next most : ℕ) (last : Option (Vec ShortStay Global)) → IsLast r stays service next last → next ≡ most + 1 → 1 ≤ most →
      most ≡ most_laps service stays → (result : Result Cycle StayFault) → IsEnded last result → KeepsStays r stays service result
  ended_most next most None e end some is result ended = absurd (omega (arith, e, end, some))
  ended_most next most (Some numbers) h end some is result ended =
      let e = h.1 in
      let all : h.0 ≡ most = omega (arith, e, end) in
      subst (KeepsStays r stays service) (sym ended) (record { laps = h.0; tried = h.2; last = inr (all ∙ is) })

-- with the promises

pub with_stays : (v : Viewers) (promises stays : List PromiseFields) (old new : ServiceFields) → stays ≢ [] →
    HasPlan v.receivers.late v.receivers.class old → IsRaised promises old new → (result : Result Cycle StayFault) →
    KeepsOrMisses v promises stays new result → AnswersStays v promises stays old new result
with_stays v promises [] old new some has raised result h = absurd (some refl)
with_stays v promises (stay ∷ stays) old new some has raised (Ok cycle) h = (has, raised, h)
with_stays v promises (stay ∷ stays) old new some has raised (Err (Promise fault)) h = absurd h
with_stays v promises (stay ∷ stays) old new some has raised (Err TooLong) h = (has, raised, h)
with_stays v promises (stay ∷ stays) old new some has raised (Err (Short numbers)) h = (has, raised, h)
with_stays v promises (stay ∷ stays) old new some has raised (Err (Missed missed)) h = (has, raised, h)
with_stays v promises (stay ∷ stays) old new some has raised (Err NoMemory) h = tt

pub some_view : (stays : List PromiseValue) → false ≡ eqb (length stays) 0 → map promise_view stays ≢ []
some_view [] some e = let f : false ≡ true = some in cc
some_view (stay ∷ stays) some e = cc
