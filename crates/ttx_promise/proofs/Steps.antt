-- One step towards a plan that keeps each promise.
use Rattle.std.proofs.Common.{◌≡◌, ℕ, ◌*◌, ◌<◌, ◌≤◌, Bool, true, false, List, length, Option, Some, None, refl, sym, ap, subst, arith, inr}
use Rattle.std.specs.Prelude.{slice_get}
use Rattle.std.proofs.lemmas.Option.{slice_get_within}
use Rattle.ttx_cycle.specs.declared.cycles.Cycle.{Cycle}
use Rattle.ttx_page.specs.declared.class.Class.{Class}
use Rattle.ttx_plan.specs.Spread.{IsTooLongSpread}
use Rattle.ttx_source.specs.Keys.{is_often}
use Rattle.ttx_source.specs.Promises.{PromiseFields}
use Rattle.ttx_source.specs.Services.{Authored, ServiceFields, IsService}
use Rattle.ttx_promise.specs.Lateness.{often_or, often_at, page_or_none, page_at, IsLatest}
use Rattle.ttx_promise.specs.Promises.{MayRise, IsRaised, raised, room, TriesToRaise, RaisesLatest}
use Rattle.ttx_promise.specs.Searching.{MayBeRaised, GoesOn}
use Rattle.ttx_promise.specs.declared.promised_plan.Viewers.{Viewers}
use Rattle.ttx_promise.proofs.LatestPromise.{latest_weighs, is_free, is_rare}
use Rattle.ttx_promise.proofs.PageOften.{IsSentSo, authored_there, at_least_once, room_less}
use Rattle.ttx_promise.proofs.RaisedPages.{one_raised}

page_there : (o : Option Authored) → often_or o < 8 → (page : Authored) × (o ≡ Some page)
page_there None lt = absurd (omega (arith, lt))
page_there (Some page) lt = (page, refl)

rare_there : (pages : List Authored) (i : ℕ) → often_at pages i < 8 → IsSentSo pages i (often_at pages i)
rare_there pages i lt =
    let there = page_there (slice_get pages i) lt in
    record { page = there.0; at = there.1; is = sym (ap often_or there.1) }

pub latest_page : (pages : List Authored) (deadlines : List ℕ) (promises : List PromiseFields) (number : ℕ) →
    (latest : IsLatest pages deadlines promises number) → page_at promises number ≡ latest.promise.page
latest_page pages deadlines promises number latest = ap page_or_none latest.at

pub latest_rare : (pages : List Authored) (deadlines : List ℕ) (promises : List PromiseFields) (number : ℕ) →
    IsLatest pages deadlines promises number → often_at pages (page_at promises number) < 8
latest_rare pages deadlines promises number latest =
    subst (λ i. often_at pages i < 8) (sym (latest_page pages deadlines promises number latest))
    (is_rare pages latest.promise (latest_weighs pages deadlines promises number latest))

may_rise_here : (pages : List Authored) (deadlines : List ℕ) (promises : List PromiseFields) (number : ℕ) →
    IsLatest pages deadlines promises number → MayRise promises (page_at promises number)
may_rise_here pages deadlines promises number latest = record {
  number = number;
  promise = latest.promise;
  at = latest.at;
  page = sym (latest_page pages deadlines promises number latest);
  free = is_free pages latest.promise (latest_weighs pages deadlines promises number latest);
}

raised_so : (deadlines : List ℕ) (promises : List PromiseFields) (old : ServiceFields) (number : ℕ) → IsService old →
    IsLatest old.pages deadlines promises number →
    IsRaised promises old (raised old (page_at promises number)) × (room (raised old (page_at promises number)).pages < room old.pages)
raised_so deadlines promises old number is latest =
    let i : ℕ = page_at promises number in
    let rare : often_at old.pages i < 8 = latest_rare old.pages deadlines promises number latest in
    let s : IsSentSo old.pages i (often_at old.pages i) = rare_there old.pages i rare in
    let authored = authored_there old.serial old.pages is.pages i s.page s.at in
    let often : is_often (often_at old.pages i) ≡ true = subst (λ n. is_often n ≡ true) s.is authored.often in
    let once : 1 ≤ often_at old.pages i = at_least_once (often_at old.pages i) often in (
      one_raised promises old i (often_at old.pages i) (2 * often_at old.pages i) (may_rise_here old.pages deadlines promises number latest) s
          (omega (arith, once)),
      room_less old.pages i (often_at old.pages i) s once rare,
    )

pub raises_latest : (late : Bool) (class : Class) (deadlines : List ℕ) (promises : List PromiseFields) (old new : ServiceFields) (number : ℕ)
    (answer : Option Cycle) → IsService old → IsLatest old.pages deadlines promises number →
    TriesToRaise late class (page_at promises number) old new answer → RaisesLatest late class deadlines promises old new answer
raises_latest late class deadlines promises old new number None is latest t = (
  t.0,
  inr (record {
    number = number;
    latest = latest;
    long = subst (λ i. IsTooLongSpread late class (raised old i)) (latest_page old.pages deadlines promises number latest) t.1;
  }),
)
raises_latest late class deadlines promises old new number (Some cycle) is latest t =
    let so = raised_so deadlines promises old number is latest in
    (subst (IsRaised promises old) (sym t.0) so.0, subst (λ (s : ServiceFields). room s.pages < room old.pages) (sym t.0) so.1, t.1)

pub goes_on : (v : Viewers) (deadlines : List ℕ) (promises : List PromiseFields) (old new : ServiceFields) (number : ℕ) (answer : Bool) →
    IsService old → IsLatest old.pages deadlines promises number →
    MayBeRaised v.receivers.late v.receivers.class (page_at promises number) old new answer → GoesOn v promises old new answer
goes_on v deadlines promises old new number false is latest m = m
goes_on v deadlines promises old new number true is latest m =
    let so = raised_so deadlines promises old number is latest in
    (subst (IsRaised promises old) (sym m.0) so.0, subst (λ (s : ServiceFields). room s.pages < room old.pages) (sym m.0) so.1, m.1)
