-- Numbers that stay as long as promised, and promises one after another.
use Rattle.std.proofs.Common.{◌≡◌, ℕ, zero, suc, ◌+◌, ◌*◌, ◌/◌, ◌<◌, ◌≤◌, List, [], ◌∷◌, ◌++◌, length, map, get_or, Option, Some, None, Bool, true, false}
use Rattle.std.proofs.Common.{sym, ap, ◌∙◌, subst, arith, inl, inr}
use Rattle.std.specs.Prelude.{slice_get, option_map}
use Rattle.std.specs.List.{list_any}
use Rattle.std.proofs.lemmas.Bool.{cases_eq, cases_Bool, cond-true, cond-false}
use Rattle.std.proofs.lemmas.List.{length-map}
use Rattle.std.proofs.lemmas.Option.{slice_get-map, slice_get-get_or, slice_get_within}
use Rattle.ttx_header.specs.Ids.{Id}
use Rattle.ttx_numbers.proofs.NumberedPages.{value_there}
use Rattle.ttx_page.specs.Pages.{Page}
use Rattle.ttx_page.specs.Streams.{repeated}
use Rattle.ttx_page.specs.Views.{page_of}
use Rattle.ttx_page.specs.declared.page.Page.{Page as PageValue}
use Rattle.ttx_page.specs.declared.selection.Selection.TheVariants.{AnySub}
use Rattle.ttx_source.specs.PromiseViews.{promise_view}
use Rattle.ttx_source.specs.Promises.{PromiseFields}
use Rattle.ttx_source.specs.Services.{Authored, ServiceFields, pages_of}
use Rattle.ttx_source.specs.declared.promises.Promise.{Promise}
use Rattle.ttx_subpages.specs.NumberReports.{IsStayOrNone}
use Rattle.ttx_carousel.specs.Carousels.{IsStayKeptFor, AreStaysKept}
use Rattle.ttx_carousel.specs.Judging.{IsShort, is_same_number, told_with, IsTold, AreShortTo, AreShort}
use Rattle.ttx_carousel.specs.declared.faults.ShortStay.{ShortStay}

-- the page at an index, as a function shows it
pub page_there : (values : List PageValue) (pages : List Authored) (i : ℕ) (value : PageValue) → i < length values →
    value ≡ get_or values i value → map page_of values ≡ map (λ (p : Authored). p.page) pages →
    slice_get (map (λ (p : Authored). p.page) pages) i ≡ Some (page_of value)
page_there values pages i value lt is same =
    ap (λ xs. slice_get xs i) (sym same) ∙ value_there values i value lt is

pub is_short : (cycle : List (List ℕ)) (service : ServiceFields) (stay : PromiseFields) (short : ShortStay) (p : Page) (number : Id)
    (slots lines : ℕ) → slice_get (pages_of service) stay.page ≡ Some p → number ≡ p.id →
    IsStayOrNone (repeated cycle) (AnySub number.mag number.page) slots → lines ≡ service.lines → short.number ≡ number →
    short.fields ≡ slots / lines → short.promise ≡ stay.fields → slots < stay.fields * lines → IsShort cycle service stay short
is_short cycle service stay short p number slots lines listed id stays own named fields promise less = record {
  page = p;
  listed = listed;
  number = named ∙ id;
  slots = slots;
  stay_is = subst (λ (x : Id). IsStayOrNone (repeated cycle) (AnySub x.mag x.page) slots) id stays;
  fields = fields ∙ ap (λ n. slots / n) own;
  promise = promise;
  missing = subst (λ n. slots < stay.fields * n) own less;
}

pub is_long : (cycle : List (List ℕ)) (service : ServiceFields) (stay : PromiseFields) (p : Page) (number : Id) (slots lines : ℕ) →
    slice_get (pages_of service) stay.page ≡ Some p → number ≡ p.id →
    IsStayOrNone (repeated cycle) (AnySub number.mag number.page) slots → lines ≡ service.lines → stay.fields * lines ≤ slots →
    IsStayKeptFor cycle service stay
is_long cycle service stay p number slots lines listed id stays own enough q e =
    let found : Some p ≡ Some q = sym listed ∙ e in
    let same : p ≡ q = cc in
    record {
      slots = slots;
      stay = subst (λ (x : Id). IsStayOrNone (repeated cycle) (AnySub x.mag x.page) slots) (id ∙ ap (λ (x : Page). x.id) same) stays;
      long = subst (λ n. stay.fields * n ≤ slots) own enough;
    }

-- one more promise
pub more_promises : (P : PromiseFields → Type 0) (list : List Promise) (n : ℕ) (d : Promise) → n < length list →
    ((other : ℕ) (kept : PromiseFields) → other < n → slice_get (map promise_view list) other ≡ Some kept → P kept) →
    P (promise_view (get_or list n d)) →
    (other : ℕ) (kept : PromiseFields) → other < n + 1 → slice_get (map promise_view list) other ≡ Some kept → P kept
more_promises P list n d lt before here other kept below e = elim (cases_eq other n) [
  | inl same ↦
      let found : Some (promise_view (get_or list n d)) ≡ Some kept =
      sym (slice_get-map promise_view list n ∙ ap (option_map promise_view) (slice_get-get_or list n d lt))
      ∙ ap (slice_get (map promise_view list)) (sym same) ∙ e in
      let is : promise_view (get_or list n d) ≡ kept = cc in
      subst P is here
  | inr apart ↦ before other kept (omega (arith, below, apart)) e
]

pub all_promises : (P : PromiseFields → Type 0) (list : List Promise) (n : ℕ) → length list ≤ n →
    ((other : ℕ) (kept : PromiseFields) → other < n → slice_get (map promise_view list) other ≡ Some kept → P kept) →
    (number : ℕ) (promise : PromiseFields) → slice_get (map promise_view list) number ≡ Some promise → P promise
all_promises P list n le before number promise e =
    let lt = slice_get_within (map promise_view list) number promise e in
    before number promise (omega (arith, lt, le, length-map list promise_view)) e

-- numbers that stay too short, one promise after another

some_told : (told : List ShortStay) (short : ShortStay) → told_with told short ≡ [] → ⊥
some_told told short e = elim (cases_Bool (list_any (is_same_number short) told)) [
  | inl there ↦ none_there told (is_same_number short) there (sym (cond-true _ told (told ++ short ∷ []) there) ∙ e)
  | inr apart ↦ not_last told short (sym (cond-false _ told (told ++ short ∷ []) apart) ∙ e)
]
  where
    none_there : (xs : List ShortStay) (test : ShortStay → Bool) → list_any test xs ≡ true → xs ≡ [] → ⊥
    none_there [] test h e = cc
    none_there (x ∷ xs) test h e = cc

    not_last : (xs : List ShortStay) (x : ShortStay) → xs ++ x ∷ [] ≡ [] → ⊥
    not_last [] x e = cc
    not_last (y ∷ xs) x e = cc

-- where no number is told, each is kept
module _ (stays : List PromiseFields) (service : ServiceFields) (cycle : List (List ℕ)) where
  none_before : (o : Option PromiseFields) (before told : List ShortStay) → IsTold cycle service o before told → told ≡ [] → before ≡ []
  none_before None before told h e = sym h ∙ e
  none_before (Some stay) before told (inl kept) e = sym kept.1 ∙ e
  none_before (Some stay) before told (inr short) e = absurd (some_told before short.0 (sym short.2 ∙ e))

  kept_here : (o : Option PromiseFields) (before told : List ShortStay) → IsTold cycle service o before told → told ≡ [] →
      (stay : PromiseFields) → o ≡ Some stay → IsStayKeptFor cycle service stay
  kept_here None before told h e stay at = let n : None ≡ Some stay = at in cc
  kept_here (Some own) before told (inl kept) e stay at =
      let n : Some own ≡ Some stay = at in
      let same : own ≡ stay = cc in
      subst (IsStayKeptFor cycle service) same kept.0
  kept_here (Some own) before told (inr short) e stay at = absurd (some_told before short.0 (sym short.2 ∙ e))

  kept_to : (n : ℕ) (told : List ShortStay) → AreShortTo stays service cycle n told → told ≡ [] → (number : ℕ) → number < n →
      (stay : PromiseFields) → slice_get stays number ≡ Some stay → IsStayKeptFor cycle service stay
  kept_to zero told h e number lt stay at = absurd (omega (arith, lt))
  kept_to (suc n) told h e number lt stay at = elim (cases_eq number n) as (λ _. IsStayKeptFor cycle service stay) [
    | inl same ↦ kept_here (slice_get stays n) h.0 told h.2 e stay (ap (slice_get stays) (sym same) ∙ at)
    | inr apart ↦
        kept_to n h.0 h.1 (none_before (slice_get stays n) h.0 told h.2 e) number (omega (arith, lt, apart)) stay at
  ]

  pub all_kept_alike : (told : List ShortStay) → AreShort stays service cycle told → told ≡ [] → AreStaysKept stays service cycle
  all_kept_alike told h e number stay at = kept_to (length stays) told h e number (slice_get_within stays number stay at) stay at

-- one more promise of the list, kept or told
pub told_next : (stays : List Promise) (service : ServiceFields) (cycle : List (List ℕ)) (n : ℕ) (d : Promise) → n < length stays →
    (before told : List ShortStay) → AreShortTo (map promise_view stays) service cycle n before →
    IsTold cycle service (Some (promise_view (get_or stays n d))) before told → AreShortTo (map promise_view stays) service cycle (n + 1) told
told_next stays service cycle n d lt before told h step =
    let at : slice_get (map promise_view stays) n ≡ Some (promise_view (get_or stays n d)) =
    slice_get-map promise_view stays n ∙ ap (option_map promise_view) (slice_get-get_or stays n d lt) in
    let next : n + 1 ≡ suc n = omega arith in
    subst (λ k. AreShortTo (map promise_view stays) service cycle k told) (sym next)
    (before, h, subst (λ o. IsTold cycle service o before told) (sym at) step)
