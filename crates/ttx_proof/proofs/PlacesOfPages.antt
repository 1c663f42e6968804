-- Pages at their places in the two lists.
use Rattle.std.proofs.Common.{◌≡◌, ℕ, zero, suc, ◌+◌, ◌<◌, ◌≤◌, List, [], ◌∷◌, length, map, slice_get, true, Option, Some, None, Result, Ok, Err}
use Rattle.std.proofs.Common.{IfOk, refl, sym, ap, ◌∙◌, subst, inl, inr, arith, eqb-true, eq-eqb}
use Rattle.std.specs.List.{Contains}
use Rattle.std.proofs.lemmas.Bool.{cases_lt, and_from}
use Rattle.std.proofs.lemmas.List.Elements.{Contains-get_or}
use Rattle.std.proofs.lemmas.Option.{slice_get_within, get_or_from_slice_get}
use Rattle.ttx_page.specs.Pages.{Page}
use Rattle.ttx_page.specs.Views.{page_of, ids_of}
use Rattle.ttx_page.specs.declared.page.Page.{Page as PageValue}
use Rattle.ttx_proof.specs.Splices.{Splice, IsCommon}
use Rattle.ttx_witness.specs.sent.Collected.{is_page, Finds}
use Rattle.ttx_header.specs.Ids.{Id, same_id}
use Rattle.ttx_proof.specs.Splicing.{TellsPlace, TellsPlaceAt, StandsAt, TellsSeamOf, TellsLate, TellsLateOf}
use Rattle.ttx_proof.specs.Verdicts.{IsFirstCommon, TellsSeam}
use Rattle.ttx_page.specs.declared.item.Item.{Item}
use Rattle.ttx_proof.proofs.BridgedIsSeen.{place_of}

pub ok_map : {A E : Type 0} (P Q : A → Type 0) (r : Result A E) → ((a : A) → P a → Q a) → IfOk r P → IfOk r Q
ok_map P Q (Ok a) f h = f a h
ok_map P Q (Err e) f h = h

pub page_there : (pages : List PageValue) (i : ℕ) → i < length pages → (p : Page) × (slice_get (map page_of pages) i ≡ Some p)
page_there [] i lt = absurd (omega arith)
page_there (x ∷ xs) zero lt = (page_of x, refl)
page_there (x ∷ xs) (suc i) lt = page_there xs i (omega arith)

pub contains_at : {X : Type 0} (xs : List X) (i : ℕ) (x : X) → slice_get xs i ≡ Some x → Contains xs x
contains_at xs i x e = subst (Contains xs) (get_or_from_slice_get xs i x x e) (Contains-get_or xs i x (slice_get_within xs i x e))

pub common_at : (c : Splice) (p : Page) (at index : ℕ) → StandsAt c p at index → IsCommon c p
common_at c p at index s = (contains_at c.old_pages at p s.old, contains_at c.new_pages index p s.new)

pub seam_told : (c : Splice) (p : Page) → IsCommon c p → (o : Option ℕ) → TellsSeam c p o → TellsSeamOf c p o
seam_told c p common None h = λ _. h
seam_told c p common (Some slot) h = (common, h)

pub late_told : (c : Splice) (p : Page) → IsCommon c p → (o : Option Item) → TellsLate c p o → TellsLateOf c p o
late_told c p common None h = λ _. h
late_told c p common (Some item) h = (common, h)

-- Q holds for each common page before the place
abbrev pub AllBefore : Splice → (Page → Type 0) → ℕ → Type 0
AllBefore c Q index = (i : ℕ) (q : Page) → i < index → slice_get c.new_pages i ≡ Some q → IsCommon c q → Q q

module _ (c : Splice) (Q : Page → Type 0) (index : ℕ) where
  pub first_common : (P : Page → Type 0) → ((q : Page) → Q q → P q → ⊥) → (p : Page) → slice_get c.new_pages index ≡ Some p →
      IsCommon c p → P p → AllBefore c Q index → IsFirstCommon c P p
  first_common P clash p e common here all = record {
    index = index;
    place = e;
    common = common;
    here = here;
    none_before = λ i q lt at among h.
        clash q (all i q lt at among) h;
  }

  pub one_more : (p : Page) → slice_get c.new_pages index ≡ Some p → (IsCommon c p → Q p) → AllBefore c Q index → AllBefore c Q (index + 1)
  one_more p e here all = λ i q lt at common. elim (cases_lt i index) as (λ _. Q q) [
    | inl less ↦ all i q less at common
    | inr ge ↦
        let same_place : i ≡ index = omega arith in
        let there : slice_get c.new_pages index ≡ Some q = subst (λ x. slice_get c.new_pages x ≡ Some q) same_place at in
        let same : p ≡ q = cc in
        subst Q same (here (subst (IsCommon c) (sym same) common))
  ]

  pub all_common : length c.new_pages ≤ index → AllBefore c Q index → (p : Page) → IsCommon c p → Q p
  all_common past all p common =
      let a = place_of c.new_pages p common.1 in
      all a.0 p (let lt = slice_get_within c.new_pages a.0 p a.1 in omega arith) a.1 common

-- the id of a page at its place
pub id_there : (pages : List PageValue) (i : ℕ) (p : Page) → slice_get (map page_of pages) i ≡ Some p → slice_get (ids_of pages) i ≡ Some p.id
id_there [] i p e = cc
id_there (x ∷ xs) zero p e = let same : page_of x ≡ p = cc in ap (λ q. Some q.id) same
id_there (x ∷ xs) (suc i) p e = id_there xs i p e

same_self : (a : Id) → same_id a a ≡ true
same_self a = and_from _ _ (and_from _ _ (eq-eqb a.mag a.mag refl) (eq-eqb a.page a.page refl)) (eq-eqb a.sub a.sub refl)

is_there : (i : ℕ) (answer : Option ℕ) → is_page i answer ≡ true → answer ≡ Some i
is_there i None e = cc
is_there i (Some j) e = ap Some (eqb-true j i e)

-- what an index answers for the id of a page of the list
found : (pages : List PageValue) (p : Page) (answer : Option ℕ) → Finds (ids_of pages) p.id answer → Contains (map page_of pages) p →
    (i : ℕ) × (answer ≡ Some i) × (slice_get (map page_of pages) i ≡ Some p)
found pages p answer f among =
    let w = place_of (map page_of pages) p among in
    (w.0, is_there w.0 answer (f w.0 p.id (id_there pages w.0 p w.1) ∙ same_self p.id), w.1)

pub not_found : (pages : List PageValue) (p : Page) → Finds (ids_of pages) p.id None → Contains (map page_of pages) p → ⊥
not_found pages p f among = let w = found pages p None f among in let e = w.1 in cc

pub found_at : (pages : List PageValue) (p : Page) (place : ℕ) → Finds (ids_of pages) p.id (Some place) → (answer : Option ℕ) →
    TellsPlaceAt (map page_of pages) p place answer → TellsPlace (map page_of pages) p answer
found_at pages p place f None told = λ among.
    let w = found pages p (Some place) f among in
    let e : place ≡ w.0 = let q = w.1 in cc in
    told (subst (λ n. slice_get (map page_of pages) n ≡ Some p) (sym e) w.2)
found_at pages p place f (Some at) told = subst (λ n. slice_get (map page_of pages) n ≡ Some p) (sym told.0) told.1
