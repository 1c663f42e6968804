-- Where pages stand, and the order of a cycle.
use Rattle.std.proofs.Common.{◌≡◌, ℕ, zero, suc, ◌+◌, ◌*◌, ◌<◌, ◌≤◌, Bool, true, false, cond, ◌||◌, List, [], ◌∷◌, ◌++◌, length, map, get_or}
use Rattle.std.proofs.Common.{Some, None, refl, sym, ap, ◌∙◌, subst, arith, inl, inr}
use Rattle.std.specs.Prelude.{slice_get, slice_index, option_map}
use Rattle.std.specs.List.{list_any, position_or_len}
use Rattle.std.proofs.lemmas.Bool.{cond-true, cond-false, cases_Bool}
use Rattle.std.proofs.lemmas.List.{length-append}
use Rattle.std.proofs.lemmas.List.Sums.{position_or_len_is}
use Rattle.std.proofs.lemmas.Option.{slice_get-map, get_or_from_slice_get}
use Rattle.ttx_page.specs.Pages.{Page}
use Rattle.ttx_page.specs.Views.{page_of}
use Rattle.ttx_page.specs.declared.page.Page.{Page as PageValue}
use Rattle.ttx_source.specs.Promises.{PromiseFields}
use Rattle.ttx_source.specs.Services.{Authored, ServiceFields, pages_of}
use Rattle.ttx_carousel.specs.Layout.{has_stays, once, place_of, standing_of, standings_to, turns, stands_at, in_round, order_to}
use Rattle.ttx_carousel.specs.Orders.{AreBelow}
use Rattle.ttx_carousel.specs.declared.layout.Standing.{Standing}
use Rattle.ttx_carousel.specs.declared.layout.Standing.TheVariants.{Rounds, Once}
use Rattle.ttx_carousel.proofs.StaysOfNumbers.{page_there}

pub listed_there : {A : Type 0} (xs : List A) (i : ℕ) → i < length xs → (x : A) × (slice_get xs i ≡ Some x)
listed_there [] i lt = absurd (omega (arith, lt))
listed_there (x ∷ xs) zero lt = (x, refl)
listed_there (x ∷ xs) (suc i) lt = listed_there xs i (omega (arith, lt))

pub same_one : {A : Type 0} (x y : A) → Some x ≡ Some y → x ≡ y
same_one x y e = cc

-- where a page stands, as a function shows it
module _ (service : ServiceFields) (stays : List PromiseFields) (places : List ℕ) (index : ℕ) (p : Authored) (values : List PageValue)
    (value : PageValue) (same : map page_of values ≡ map (λ (q : Authored). q.page) service.pages) (lt : index < length values)
    (is : value ≡ get_or values index value) (at : slice_get service.pages index ≡ Some p) where
  abbrev own : Page
  own = page_of value

  page_is : own ≡ p.page
  page_is = same_one own p.page
      (sym (page_there values service.pages index value lt is same) ∙ slice_get-map (λ (q : Authored). q.page) service.pages index
      ∙ ap (option_map (λ (q : Authored). q.page)) at)

  has_is : has_stays (map page_of values) stays own ≡ has_stays (pages_of service) stays p.page
  has_is = ap (λ xs. has_stays xs stays own) same ∙ ap (has_stays (pages_of service) stays) page_is

  pub stands_once : (standing : Standing) (t : ℕ) → t ≡ turns (pages_of service) stays → has_stays (map page_of values) stays own ≡ true →
      standing ≡ once (map page_of values) places own t → standing ≡ standing_of (pages_of service) stays places index p
  stands_once standing t e has s =
      s ∙ ap (λ xs. once xs places own t) same ∙ ap (λ q. once (pages_of service) places q t) page_is
      ∙ ap (once (pages_of service) places p.page) e ∙ sym (cond-true (has_stays (pages_of service) stays p.page) _ _ (sym has_is ∙ has))

  pub stands_in_rounds : (often place : ℕ) → option_map (λ (q : Authored). q.often) (slice_get service.pages index) ≡ Some often →
      has_stays (map page_of values) stays own ≡ false → place ≡ place_of places index →
      Rounds often place ≡ standing_of (pages_of service) stays places index p
  stands_in_rounds often place o has e =
      let often_is : p.often ≡ often = same_one p.often often (ap (option_map (λ (q : Authored). q.often)) (sym at) ∙ o) in
      ap (λ n. Rounds n place) (sym often_is) ∙ ap (Rounds p.often) e
      ∙ sym (cond-false (has_stays (pages_of service) stays p.page) _ _ (sym has_is ∙ has))

-- orders

below_none : (count : ℕ) → AreBelow count []
below_none count k lt = absurd (omega (arith, lt))

below_cons : (count x : ℕ) (xs : List ℕ) → x < count → AreBelow count xs → AreBelow count (x ∷ xs)
below_cons count x xs here rest zero lt = here
below_cons count x xs here rest (suc k) lt = rest k (omega (arith, lt))

below_append : (count : ℕ) (xs ys : List ℕ) → AreBelow count xs → AreBelow count ys → AreBelow count (xs ++ ys)
below_append count [] ys a b = b
below_append count (x ∷ xs) ys a b = below_cons count x (xs ++ ys) (a 0 (omega arith))
    (below_append count xs ys (λ k lt. a (suc k) (omega (arith, lt))) b)

below_one : (count x : ℕ) (b : Bool) → x < count → AreBelow count (cond b (x ∷ []) [])
below_one count x true lt = below_cons count x [] lt (below_none count)
below_one count x false lt = below_none count

below_round : (standings : List Standing) (laps round n : ℕ) → n ≤ length standings → AreBelow (length standings) (in_round standings laps round n)
below_round standings laps round zero le = below_none (length standings)
below_round standings laps round (suc n) le =
    below_append (length standings) (in_round standings laps round n) _ (below_round standings laps round n (omega arith))
    (below_one (length standings) n (stands_at (slice_get standings n) laps round) (omega arith))

pub below_order : (standings : List Standing) (laps n : ℕ) → AreBelow (length standings) (order_to standings laps n)
below_order standings laps zero = below_none (length standings)
below_order standings laps (suc n) =
    below_append (length standings) (order_to standings laps n) (in_round standings laps n (length standings)) (below_order standings laps n)
    (below_round standings laps n (length standings) (omega arith))

pub longer_order : (standings : List Standing) (laps n more : ℕ) → length (order_to standings laps n) ≤ length (order_to standings laps (more + n))
longer_order standings laps n zero =
    let e : 0 + n ≡ n = omega arith in
    subst (λ k. length (order_to standings laps n) ≤ length (order_to standings laps k)) (sym e) (omega arith)
longer_order standings laps n (suc more) =
    let rest = longer_order standings laps n more in
    let sum = length-append (order_to standings laps (more + n)) (in_round standings laps (more + n) (length standings)) in
    let e : suc more + n ≡ suc (more + n) = omega arith in
    subst (λ k. length (order_to standings laps n) ≤ length (order_to standings laps k)) (sym e) (omega (arith, rest, sum))

-- the first that passes, where the test fails of those before
pub first_at : {A : Type 0} (test : A → Bool) (xs : List A) (i : ℕ) (d : A) → i ≤ length xs →
    ((k : ℕ) (q : A) → k < i → slice_get xs k ≡ Some q → test q ≡ false) → ((q : A) → slice_get xs i ≡ Some q → test q ≡ true) →
    i ≡ position_or_len test xs
first_at test xs i d le none here = sym (position_or_len_is test xs i d le
    (λ k below. let q = listed_there xs k (omega (arith, le, below)) in
    ap test (get_or_from_slice_get xs k q.0 d q.1) ∙ none k q.0 below q.1)
    (λ within. let q = listed_there xs i within in ap test (get_or_from_slice_get xs i q.0 d q.1) ∙ here q.0 q.1))
