-- The waits of pages say which pages are seen, and which come in time.
use Rattle.std.proofs.Common.{◌≡◌, ℕ, zero, suc, ◌<◌, ◌≤◌, List, [], ◌∷◌, length, map, Some}
use Rattle.std.proofs.Common.{refl, sym, ap, ◌∙◌, subst, arith, inl, inr, get_or, ◌+◌, Option, None, Bool, true, false}
use Rattle.std.proofs.lemmas.Bool.{cases_eq, cases_Bool}
use Rattle.std.proofs.lemmas.List.{length-map}
use Rattle.std.specs.Prelude.{slice_get, option_map}
use Rattle.std.proofs.lemmas.Option.{slice_get_within, slice_get-map, slice_get-get_or}
use Rattle.ttx_header.specs.Ids.{Id}
use Rattle.ttx_page.specs.Pages.{Page}
use Rattle.ttx_page.specs.declared.item.Item.{Item}
use Rattle.ttx_page.specs.declared.class.Class.{Class}
use Rattle.ttx_promise.specs.Promises.{AreKept}
use Rattle.ttx_promise.specs.PromisedWaits.{with_promises}
use Rattle.ttx_promise.specs.declared.faults.LatePage.{LatePage}
use Rattle.ttx_promise.specs.declared.waits_and_promises.PromisedWait.{PromisedWait}
use Rattle.ttx_source.specs.Promises.{PromiseFields}
use Rattle.ttx_source.specs.Services.{ServiceFields, pages_of}
use Rattle.ttx_witness.specs.wait_times.PageWaits.{AreWaits, CanAccept, IsLeast, fields_told}
use Rattle.ttx_witness.specs.declared.wait_times.wait.PageWait.{PageWait}
use Rattle.ttx_witness.specs.declared.wait_times.wait.Wait.{Wait}
use Rattle.ttx_witness.specs.declared.wait_times.wait.Wait.TheVariants.{Fields, Faulty, Unsure}
use Rattle.ttx_carousel.specs.Carousels.{IsSeen, AreSeen}
use Rattle.ttx_promise.specs.declared.promised_plan.Viewers.{Viewers}
use Rattle.ttx_carousel.specs.Judging.{IsUnseen, IsLateFor, IsKeptFor, IsFirstLate, IsShownOrMissed, IsShownLate, IsJudged}
use Rattle.ttx_carousel.specs.declared.faults.Missed.{Missed}
use Rattle.ttx_carousel.specs.declared.faults.Missed.TheVariants.{Unseen, Late, NeverShown}
use Rattle.ttx_carousel.specs.Waiting.{told_of, HasFields, AllHaveFields, IsFirstWithout, IsAtMost, IsInTime, AreInTime}
use Rattle.ttx_carousel.specs.Waiting.{TellsFields, IsLateIn, IsFirstLateIn}

pub all_told : (index : ℕ) (promises : List PromiseFields) (told : List PageWait) → map told_of (with_promises index promises told) ≡ told
all_told index promises [] = refl
all_told index promises (one ∷ told) = ap (λ rest. one ∷ rest) (all_told (suc index) promises told)

listed_at : {A : Type 0} (xs : List A) (i : ℕ) → i < length xs → (x : A) × (slice_get xs i ≡ Some x)
listed_at [] i lt = absurd (omega (arith, lt))
listed_at (x ∷ xs) zero lt = (x, refl)
listed_at (x ∷ xs) (suc i) lt = listed_at xs i (omega (arith, lt))

one_of : {A : Type 0} (x y : A) → Some x ≡ Some y → x ≡ y
one_of x y e = cc

-- a wait with a deadline

seen_by : (P : ℕ → Type 0) (wait : Wait) → HasFields wait → IsLeast P (fields_told wait) → (d : ℕ) × P d
seen_by P (Fields fields item) has least = (fields, least.0)
seen_by P (Faulty reason) has least = absurd has
seen_by P (Unsure item losses) has least = absurd has

in_time_by : (P : ℕ → Type 0) (wait : Wait) (promise : ℕ) → HasFields wait → IsAtMost wait promise → IsLeast P (fields_told wait) →
    (d : ℕ) × ((d ≤ promise) × P d)
in_time_by P (Fields fields item) promise has most least = (fields, (most, least.0))
in_time_by P (Faulty reason) promise has most least = absurd has
in_time_by P (Unsure item losses) promise has most least = absurd has

none_by : (P : ℕ → Type 0) (wait : Wait) → (HasFields wait → ⊥) → IsLeast P (fields_told wait) → (d : ℕ) → P d → ⊥
none_by P (Fields fields item) without least = absurd (without tt)
none_by P (Faulty reason) without least = least
none_by P (Unsure item losses) without least = least

late_by : (P : ℕ → Type 0) (wait : Wait) (n : ℕ) → TellsFields wait n → IsLeast P (fields_told wait) → IsLeast P (Some n)
late_by P (Fields fields item) n tells least = subst (λ m. IsLeast P (Some m)) (sym tells) least
late_by P (Faulty reason) n tells least = absurd tells
late_by P (Unsure item losses) n tells least = absurd tells

-- what the waits say

module _ (cycle : List (List ℕ)) (service : ServiceFields) (class : Class) (repeat : ℕ) (told : List PageWait)
    (waits : AreWaits cycle (pages_of service) class repeat service.lines told) where
  seen_at : (index : ℕ) (p : Page) → slice_get (pages_of service) index ≡ Some p →
      ((one : PageWait) → slice_get told index ≡ Some one → HasFields one.wait) → IsSeen cycle service p class repeat
  seen_at index p e has =
      let t = waits.each index p e in
      let s = seen_by (CanAccept cycle (pages_of service) p class repeat service.lines) t.answer.wait (has t.answer t.at) t.wait.least in
      record { deadline = s.0; accepted = s.1 }

  pub all_seen : AllHaveFields told → AreSeen cycle service class repeat
  all_seen has index p e = seen_at index p e (has index)

  kept_for : AllHaveFields told → (promise : PromiseFields) → IsInTime told promise → IsKeptFor cycle service class repeat promise
  kept_for has promise in_time p e =
      let t = waits.each promise.page p e in
      let k = in_time_by (CanAccept cycle (pages_of service) p class repeat service.lines) t.answer.wait promise.fields
      (has promise.page t.answer t.at) (in_time t.answer t.at) t.wait.least in
      record { deadline = k.0; in_time = k.1.0; accepted = k.1.1 }

  pub all_kept : AllHaveFields told → (promises : List PromiseFields) → AreInTime told promises → AreKept promises service class repeat cycle
  all_kept has promises in_time number promise at p e = kept_for has promise (in_time number promise at) p e

  pub is_unseen : (id : Id) → IsFirstWithout told id → IsUnseen cycle service class repeat id
  is_unseen id first =
      let within : first.index < length (pages_of service) =
      let w = slice_get_within told first.index first.one first.at in omega (arith, w, waits.count) in
      let p = listed_at (pages_of service) first.index within in
      let t = waits.each first.index p.0 p.1 in
      let same : t.answer ≡ first.one = one_of t.answer first.one (sym t.at ∙ first.at) in
      record {
        index = first.index;
        page = p.0;
        listed = p.1;
        id_is = first.page_is ∙ ap (λ (x : PageWait). x.page) (sym same) ∙ t.page;
        none = none_by (CanAccept cycle (pages_of service) p.0 class repeat service.lines) t.answer.wait
            (λ h. first.none (subst (λ (x : PageWait). HasFields x.wait) same h)) t.wait.least;
        before = λ other q lt e. seen_at other q e (λ one at. first.before other one lt at);
      }

  late_for : (promise : PromiseFields) (late : LatePage) → IsLateIn told promise late → IsLateFor cycle service class repeat promise late
  late_for promise late is =
      let within : promise.page < length (pages_of service) =
      let w = slice_get_within told promise.page is.one is.at in omega (arith, w, waits.count) in
      let p = listed_at (pages_of service) promise.page within in
      let t = waits.each promise.page p.0 p.1 in
      let same : t.answer ≡ is.one = one_of t.answer is.one (sym t.at ∙ is.at) in
      record {
        page = p.0;
        listed = p.1;
        id_is = is.page_is ∙ ap (λ (x : PageWait). x.page) (sym same) ∙ t.page;
        least = late_by (CanAccept cycle (pages_of service) p.0 class repeat service.lines) t.answer.wait late.fields
            (subst (λ (x : PageWait). TellsFields x.wait late.fields) (sym same) is.fields_are) t.wait.least;
        promise_is = is.promise_is;
        missing = is.missing;
      }

  pub is_first_late : AllHaveFields told → (promises : List PromiseFields) (late : LatePage) → IsFirstLateIn told promises late →
      IsFirstLate cycle service class repeat promises late
  is_first_late has promises late first = record {
    number = first.number;
    promise = first.promise;
    at = first.at;
    is = late_for first.promise late first.is;
    before = λ other kept lt e. kept_for has kept (first.before other kept lt e);
  }

-- one more page has a deadline
pub more_fields : (all : List PromisedWait) (n : ℕ) (one : PromisedWait) → n < length all → one ≡ get_or all n one → HasFields one.told.wait →
    ((other : ℕ) (earlier : PageWait) → other < n → slice_get (map told_of all) other ≡ Some earlier → HasFields earlier.wait) →
    (other : ℕ) (earlier : PageWait) → other < n + 1 → slice_get (map told_of all) other ≡ Some earlier → HasFields earlier.wait
more_fields all n one lt is has before other earlier below e = elim (cases_eq other n) [
  | inl same ↦
      let found : Some (told_of (get_or all n one)) ≡ Some earlier =
      sym (slice_get-map told_of all n ∙ ap (option_map told_of) (slice_get-get_or all n one lt))
      ∙ ap (slice_get (map told_of all)) (sym same) ∙ e in
      let one_is : told_of one ≡ earlier = ap told_of is ∙ one_of (told_of (get_or all n one)) earlier found in
      subst (λ (x : PageWait). HasFields x.wait) one_is has
  | inr apart ↦ before other earlier (omega (arith, below, apart)) e
]

pub all_fields : (all : List PromisedWait) (n : ℕ) → length all ≤ n →
    ((other : ℕ) (earlier : PageWait) → other < n → slice_get (map told_of all) other ≡ Some earlier → HasFields earlier.wait) →
    AllHaveFields (map told_of all)
all_fields all n le before index one e =
    let lt = slice_get_within (map told_of all) index one e in
    before index one (omega (arith, lt, le, length-map all told_of)) e

pub has_fields : (wait : Wait) (fields : ℕ) (item : Item) → wait ≡ Fields fields item → HasFields wait
has_fields wait fields item e = subst HasFields (sym e) tt

judged_late : (v : Viewers) (promises : List PromiseFields) (service : ServiceFields) (cycle : List (List ℕ)) →
    AreSeen cycle service v.receivers.class v.repeat → AreKept promises service v.receivers.class v.repeat cycle → v.receivers.late ≡ true →
    (missed : Option Missed) → IsShownOrMissed cycle (pages_of service) missed → IsJudged v promises service cycle missed
judged_late v promises service cycle seen kept late None h = record { seen = seen; kept = kept; followed = λ _. h }
judged_late v promises service cycle seen kept late (Some (Unseen page)) h = absurd h
judged_late v promises service cycle seen kept late (Some (Late one)) h = absurd h
judged_late v promises service cycle seen kept late (Some (NeverShown page slot)) h = (late, h)

true_apart : (b : Bool) → b ≡ false → b ≡ true → ⊥
true_apart b f t = cc

pub judged_rest : (v : Viewers) (promises : List PromiseFields) (service : ServiceFields) (cycle : List (List ℕ)) →
    AreSeen cycle service v.receivers.class v.repeat → AreKept promises service v.receivers.class v.repeat cycle →
    (missed : Option Missed) → IsShownLate v.receivers.late cycle (pages_of service) missed → IsJudged v promises service cycle missed
judged_rest v promises service cycle seen kept missed h = elim (cases_Bool v.receivers.late) [
  | inl late ↦ judged_late v promises service cycle seen kept late missed
      (subst (λ b. IsShownLate b cycle (pages_of service) missed) late h)
  | inr early ↦ subst (IsJudged v promises service cycle)
      (sym (subst (λ b. IsShownLate b cycle (pages_of service) missed) early h))
      (record { seen = seen; kept = kept; followed = λ late. absurd (true_apart v.receivers.late early late) })
]
