-- Promises that are kept, by the deadlines of the pages.
use Rattle.std.proofs.Common.{◌≡◌, ◌≢◌, ℕ, zero, suc, ◌<◌, ◌≤◌, List, [], ◌∷◌, ◌++◌, length, get_or, map, Some, None}
use Rattle.std.proofs.Common.{refl, sym, ap, subst, inl, inr, ◌∙◌}
use Rattle.std.specs.Prelude.{slice_get, option_map}
use Rattle.std.proofs.lemmas.Bool.{cases_lt, cond-true, lt-ltb}
use Rattle.std.proofs.lemmas.List.{length-map}
use Rattle.std.proofs.lemmas.Option.{slice_get-get_or, slice_get-map, slice_get_within}
use Rattle.std.specs.List.{AllPairs}
use Rattle.std.proofs.lemmas.Simd.{map-map}
use Rattle.ttx_page.specs.Pages.{Page}
use Rattle.ttx_page.specs.declared.page.Page.{Page as PageValue}
use Rattle.ttx_page.specs.Views.{page_of, ids_of}
use Rattle.ttx_page.specs.declared.class.Class.{Class}
use Rattle.ttx_plan.specs.Acceptance.{IsAcceptedForEach}
use Rattle.ttx_source.specs.Promises.{PromiseFields}
use Rattle.ttx_source.specs.Services.{Authored, authored_ids, ServiceFields, pages_of}
use Rattle.ttx_witness.specs.wait_times.PageWaits.{AreWaits, CanAccept, IsLeast, fields_told}
use Rattle.ttx_witness.specs.declared.wait_times.wait.PageWait.{PageWait}
use Rattle.ttx_witness.specs.declared.wait_times.wait.Wait.{Wait}
use Rattle.ttx_witness.specs.declared.wait_times.wait.Wait.TheVariants.{Fields, Faulty, Unsure}
use Rattle.ttx_promise.specs.Deadlines.{AreDeadlines, fields_of}
use Rattle.ttx_promise.specs.Lateness.{late_page, late_of, late_at}
use Rattle.ttx_promise.specs.Promises.{IsKept, AreKept}

-- the ids of a service's pages are distinct
pub distinct_ids : (pages : List PageValue) (authored : List Authored) → map page_of pages ≡ map (λ (p : Authored). p.page) authored →
    AllPairs (λ a b. a ≢ b) (authored_ids authored) → AllPairs (λ a b. a ≢ b) (ids_of pages)
distinct_ids pages authored e distinct =
    subst (AllPairs (λ a b. a ≢ b))
    (sym (map-map (λ (p : Page). p.id) (λ (a : Authored). a.page) authored) ∙ ap (map (λ (p : Page). p.id)) (sym e)
    ∙ map-map (λ (p : Page). p.id) page_of pages) distinct

pub same_ids : (pages : List PageValue) (authored : List Authored) → map page_of pages ≡ map (λ (p : Authored). p.page) authored →
    ids_of pages ≡ authored_ids authored
same_ids pages authored e =
    sym (map-map (λ (p : Page). p.id) page_of pages) ∙ ap (map (λ (p : Page). p.id)) e ∙ map-map (λ (p : Page). p.id) (λ (a : Authored). a.page) authored

-- a wait that has a deadline tells it
told_is : (P : ℕ → Type 0) (d : ℕ) (wait : Wait) → P d → IsLeast P (fields_told wait) → IsLeast P (Some (fields_of wait))
told_is P d (Fields fields item) some least = least
told_is P d (Faulty reason) some least = absurd (least d some)
told_is P d (Unsure item losses) some least = absurd (least d some)

can_accept : (cycle : List (List ℕ)) (class : Class) (service : ServiceFields) (repeat : ℕ) → IsAcceptedForEach class service cycle →
    1 ≤ repeat → repeat ≤ 8 → (index : ℕ) (p : Page) → slice_get (pages_of service) index ≡ Some p →
    CanAccept cycle (pages_of service) p class repeat service.lines 1000000
can_accept cycle class service repeat accepted from to index p e =
    let c = accepted repeat from to in record {
      w = c.w;
      is = record { is = c.is; same_class = c.same_class; same_repeat = c.same_repeat; same_lines = c.same_lines; same_deadline = c.same_deadline };
      accepts = record { steady = c.accepted.steady index p e; shows = λ item seen. c.accepted.covered index p e item seen };
    }

pub are_deadlines : (cycle : List (List ℕ)) (class : Class) (service : ServiceFields) (repeat : ℕ) (told : List PageWait) (deadlines : List ℕ) →
    IsAcceptedForEach class service cycle → 1 ≤ repeat → repeat ≤ 8 → AreWaits cycle (pages_of service) class repeat service.lines told →
    deadlines ≡ map (λ (t : PageWait). fields_of t.wait) told → AreDeadlines cycle (pages_of service) class repeat service.lines deadlines
are_deadlines cycle class service repeat told deadlines accepted from to waits is = record {
  count = ap length is ∙ length-map told (λ (t : PageWait). fields_of t.wait) ∙ waits.count;
  each = λ index p e.
      let t = waits.each index p e in
      let at : slice_get deadlines index ≡ Some (fields_of t.answer.wait) =
      ap (λ (xs : List ℕ). slice_get xs index) is ∙ slice_get-map (λ (t : PageWait). fields_of t.wait) told index
      ∙ ap (option_map (λ (t : PageWait). fields_of t.wait)) t.at in
      subst (IsLeast (CanAccept cycle (pages_of service) p class repeat service.lines)) (sym at)
      (told_is (CanAccept cycle (pages_of service) p class repeat service.lines) 1000000 t.answer.wait
      (can_accept cycle class service repeat accepted from to index p e) t.wait.least);
}

first_none : {A : Type 0} (xs ys : List A) → xs ++ ys ≡ [] → xs ≡ []
first_none [] ys e = refl
first_none (x ∷ xs) ys e = let f : x ∷ (xs ++ ys) ≡ [] = e in cc

rest_none : {A : Type 0} (xs ys : List A) → xs ++ ys ≡ [] → ys ≡ []
rest_none [] ys e = e
rest_none (x ∷ xs) ys e = let f : x ∷ (xs ++ ys) ≡ [] = e in cc

-- of a page that isn't among the late ones the deadline is at most the promise
in_time : (p : Page) (deadlines : List ℕ) (promise : PromiseFields) → late_page (Some p) deadlines promise ≡ [] →
    get_or deadlines promise.page 0 ≤ promise.fields
in_time p deadlines promise none =
    elim (cases_lt promise.fields (get_or deadlines promise.page 0)) as (λ _. get_or deadlines promise.page 0 ≤ promise.fields) [
      | inl late ↦
          let some = cond-true _ (late_at p.id (get_or deadlines promise.page 0) promise.fields ∷ []) [] (lt-ltb _ _ late) in
          let f : late_at p.id (get_or deadlines promise.page 0) promise.fields ∷ [] ≡ [] = sym some ∙ none in
          cc
      | inr le ↦ le
    ]

kept_one : (cycle : List (List ℕ)) (pages : List Page) (class : Class) (repeat lines : ℕ) (deadlines : List ℕ) (promise : PromiseFields) (p : Page) →
    AreDeadlines cycle pages class repeat lines deadlines → slice_get pages promise.page ≡ Some p →
    late_page (slice_get pages promise.page) deadlines promise ≡ [] → IsKept cycle pages p class repeat lines promise.fields
kept_one cycle pages class repeat lines deadlines promise p are e none =
    let within : promise.page < length deadlines =
    subst (λ n. promise.page < n) (sym are.count) (slice_get_within pages promise.page p e) in
    let at = slice_get-get_or deadlines promise.page 0 within in
    let least = subst (IsLeast (CanAccept cycle pages p class repeat lines)) at (are.each promise.page p e) in
    record {
      deadline = get_or deadlines promise.page 0;
      in_time = in_time p deadlines promise (subst (λ o. late_page o deadlines promise ≡ []) e none);
      accepted = least.0;
    }

kept_each : (cycle : List (List ℕ)) (pages : List Page) (class : Class) (repeat lines : ℕ) (deadlines : List ℕ) (promises : List PromiseFields) →
    AreDeadlines cycle pages class repeat lines deadlines → late_of pages deadlines promises ≡ [] →
    (number : ℕ) (promise : PromiseFields) → slice_get promises number ≡ Some promise →
    (p : Page) → slice_get pages promise.page ≡ Some p → IsKept cycle pages p class repeat lines promise.fields
kept_each cycle pages class repeat lines deadlines [] are none number promise e p f = let g : None ≡ Some promise = e in cc
kept_each cycle pages class repeat lines deadlines (q ∷ promises) are none zero promise e p f =
    let g : Some q ≡ Some promise = e in
    let h : q ≡ promise = cc in
    let first = first_none (late_page (slice_get pages q.page) deadlines q) (late_of pages deadlines promises) none in
    kept_one cycle pages class repeat lines deadlines promise p are f
    (subst (λ (r : PromiseFields). late_page (slice_get pages r.page) deadlines r ≡ []) h first)
kept_each cycle pages class repeat lines deadlines (q ∷ promises) are none (suc number) promise e p f =
    kept_each cycle pages class repeat lines deadlines promises are
    (rest_none (late_page (slice_get pages q.page) deadlines q) (late_of pages deadlines promises) none) number promise e p f

pub are_kept : (cycle : List (List ℕ)) (class : Class) (repeat : ℕ) (service : ServiceFields) (deadlines : List ℕ) (promises : List PromiseFields) →
    AreDeadlines cycle (pages_of service) class repeat service.lines deadlines → late_of (pages_of service) deadlines promises ≡ [] →
    AreKept promises service class repeat cycle
are_kept cycle class repeat service deadlines promises are none =
    kept_each cycle (pages_of service) class repeat service.lines deadlines promises are none
