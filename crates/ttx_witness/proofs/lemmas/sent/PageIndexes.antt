-- An index of pages, built page by page.
use Rattle.std.proofs.Common.{◌≡◌, ◌≢◌, ℕ, zero, suc, ◌+◌, ◌<◌, ◌^◌, Bool, true, false, ◌==◌, ◌&&◌, ◌||◌, if◌then◌else◌, List, [], ◌∷◌, map, length}
use Rattle.std.proofs.Common.{get_or, slice_get, Option, Some, None, refl, sym, ap, ◌∙◌, subst, inl, inr, arith, eqb-true, eq-eqb}
use Rattle.std.specs.List.{AllPairs, list_any}
use Rattle.std.specs.Option.{option_map}
use Rattle.std.proofs.lemmas.Option.{slice_get_within, slice_get_cases, get_or_from_slice_get, slice_get-map, slice_get_read}
use Rattle.std.proofs.lemmas.List.{length-map, get_or-map}
use Rattle.std.proofs.lemmas.Map.Made.{IsDistinct-from_AllPairs}
use Rattle.std.proofs.lemmas.Map.Steps.{length-le_from_distinct_below}
use Rattle.std.proofs.lemmas.Bool.Decides.{Decides-eqb}
use Rattle.std.proofs.Math.Dec.{eqb}
use Rattle.std.proofs.lemmas.Bool.{cases_lt, cases_Bool, and_from, and_parts, cond_both, both_ways}
use Rattle.ttx_header.specs.Ids.{Id, IsId, same_id}
use Rattle.ttx_page.specs.declared.page.Page.{Page as PageValue}
use Rattle.ttx_page.specs.Pages.{Page, IsPage}
use Rattle.ttx_page.specs.Views.{page_of, ids_of}
use Rattle.ttx_witness.specs.sent.Collected.{is_page, Finds, key_of}

id_same : (a b : Id) → a.mag ≡ b.mag → a.page ≡ b.page → a.sub ≡ b.sub → a ≡ b
id_same a b m p s = λ i. record { mag = m i; page = p i; sub = s i }

key_one : (a b : Id) → IsId a → IsId b → key_of a ≡ key_of b → a ≡ b
key_one a b ia ib e =
    let pa = ia.page in let pb = ib.page in let sa = ia.sub.top in let sb = ib.sub.top in
    id_same a b (omega arith) (omega arith) (omega arith)

pub same_one : (a b : Id) → same_id a b ≡ true → a ≡ b
same_one a b e =
    let l = (and_parts _ _ e).0 in
    id_same a b (eqb-true _ _ ((and_parts _ _ l).0)) (eqb-true _ _ ((and_parts (a.mag == b.mag) _ l).1))
    (eqb-true _ _ ((and_parts ((a.mag == b.mag) && (a.page == b.page)) _ e).1))

pub same_self : (a : Id) → same_id a a ≡ true
same_self a = and_from _ _ (and_from _ _ (eq-eqb a.mag a.mag refl) (eq-eqb a.page a.page refl)) (eq-eqb a.sub a.sub refl)

key_below : (id : Id) → IsId id → key_of id < 37748736
key_below id is = let m = is.mag_to in let p = is.page in let s = is.sub.top in omega arith

keys_below : (ids : List Id) → ((i : ℕ) (id : Id) → slice_get ids i ≡ Some id → IsId id) → (q : ℕ) → list_any (eqb q) (map key_of ids)
    ≡ true → q < 37748736
keys_below [] are q e = absurd (let h : false ≡ true = e in cc)
keys_below (id ∷ ids) are q e = elim (cases_Bool (eqb q (key_of id))) as (λ _. q < 37748736) [
  | inl h ↦ subst (λ x. x < 37748736) (sym (eqb-true q (key_of id) h)) (key_below id (are zero id refl))
  | inr h ↦ keys_below ids (λ i. are (suc i)) q (or_right (eqb q (key_of id)) _ h e)
]
  where
    or_right : (a b : Bool) → a ≡ false → (a || b) ≡ true → b ≡ true
    or_right true b f e = cc
    or_right false b f e = e

slice_get_here : (ids : List Id) (i : ℕ) → i < length ids → (id : Id) × (slice_get ids i ≡ Some id)
slice_get_here ids i lt = elim (slice_get_cases ids i).1 as (λ _. (id : Id) × (slice_get ids i ≡ Some id)) [
  | inl w ↦ (w.0, w.2)
  | inr past ↦ absurd (let p = past.0 in omega arith)
]

-- after the first n pages
pub record IsIndexed (ids : List Id) (n : ℕ) (at : ℕ → Option ℕ) : Type 0 where
  pub known : (i : ℕ) (own : Id) → i < n → slice_get ids i ≡ Some own → at (key_of own) ≡ Some i
  pub sound : (key i : ℕ) (own : Id) → at key ≡ Some i → slice_get ids i ≡ Some own → key_of own ≡ key

module _ (ids : List Id) (are : (i : ℕ) (id : Id) → slice_get ids i ≡ Some id → IsId id) (distinct : AllPairs (λ a b. a ≢ b) ids) where
  places_differ : (i j : ℕ) (a b : Id) → i < j → slice_get ids i ≡ Some a → slice_get ids j ≡ Some b → a ≡ b → ⊥
  places_differ i j a b lt e f same =
      let p = get_or_from_slice_get ids i a a e in let q = get_or_from_slice_get ids j b a f in
      distinct i j a lt (slice_get_within ids j b f) (p ∙ same ∙ sym q)

  keys_apart : AllPairs (λ a b. a ≢ b) (map key_of ids)
  keys_apart i j d lt in_range same =
      let l = length-map ids key_of in
      let a = slice_get_here ids i (omega arith) in
      let b = slice_get_here ids j (omega arith) in
      let p = get_or-map key_of ids i a.0 d (omega arith) ∙ ap key_of (get_or_from_slice_get ids i a.0 a.0 a.1) in
      let q = get_or-map key_of ids j b.0 d (omega arith) ∙ ap key_of (get_or_from_slice_get ids j b.0 b.0 b.1) in
      places_differ i j a.0 b.0 lt a.1 b.1 (key_one a.0 b.0 (are i a.0 a.1) (are j b.0 b.1) (sym p ∙ same ∙ q))

  -- there are at most as many distinct ids as keys
  pub few_ids : length ids < 2 ^ 32
  few_ids =
      let l = length-map ids key_of in
      let n = length-le_from_distinct_below (map key_of ids) 37748736 (IsDistinct-from_AllPairs Decides-eqb (map key_of ids) keys_apart)
      (keys_below ids are) in
      omega arith

  pub one_indexed : (n : ℕ) (own : Id) (at new : ℕ → Option ℕ) → slice_get ids n ≡ Some own →
      ((q : ℕ) → new q ≡ (if key_of own == q then Some n else at q)) → IsIndexed ids n at → IsIndexed ids (n + 1) new
  one_indexed n own at new here put a = record {
    known = λ i other lt e. elim (cases_lt i n) as (λ _. new (key_of other) ≡ Some i) [
      | inl low ↦ put (key_of other) ∙ cond_both (key_of own == key_of other) _ _ (λ x. x ≡ Some i)
          (λ q. absurd (places_differ i n other own low e here (sym (key_one own other (are n own here) (are i other e) (eqb-true _ _ q)))))
          (λ _. a.known i other low e)
      | inr high ↦
          let q : i ≡ n = omega arith in
          let s : other ≡ own = let e2 = subst (λ x. slice_get ids x ≡ Some other) q e in cc in
          put (key_of other) ∙ cond_both (key_of own == key_of other) _ _ (λ x. x ≡ Some i)
          (λ _. ap Some (sym q)) (λ f. absurd (both_ways _ f (eq-eqb (key_of own) (key_of other) (ap key_of (sym s)))))
    ];
    sound = λ key i other e f. elim (cases_Bool (key_of own == key)) as (λ _. key_of other ≡ key) [
      | inl q ↦
          let h : new key ≡ Some n = put key ∙ cond_both (key_of own == key) _ _ (λ x. x ≡ Some n) (λ _. refl) (λ g. absurd (both_ways _ g q)) in
          let k : i ≡ n = cc in
          let s : other ≡ own = let e2 = subst (λ x. slice_get ids x ≡ Some other) k f in cc in
          ap key_of s ∙ eqb-true _ _ q
      | inr q ↦
          let h : new key ≡ at key = put key ∙ cond_both (key_of own == key) _ _ (λ x. x ≡ at key) (λ g. absurd (both_ways _ q g)) (λ _. refl) in
          a.sound key i other (sym h ∙ e) f
    ];
  }

  pub all_indexed : (at : ℕ → Option ℕ) → IsIndexed ids (length ids) at → (id : Id) → IsId id → Finds ids id (at (key_of id))
  all_indexed at a id is i own e = elim (cases_Bool (same_id own id)) as (λ _. is_page i (at (key_of id)) ≡ same_id own id) [
    | inl s ↦
        let k = a.known i own (slice_get_within ids i own e) e in
        let q : at (key_of id) ≡ Some i = ap (λ x. at (key_of x)) (sym (same_one own id s)) ∙ k in
        ap (is_page i) q ∙ eq-eqb i i refl ∙ sym s
    | inr s ↦ other s (at (key_of id)) refl ∙ sym s
  ]
    where
      other : same_id own id ≡ false → (x : Option ℕ) → at (key_of id) ≡ x → is_page i x ≡ false
      other s None q = refl
      other s (Some j) q = elim (cases_Bool (j == i)) as (λ _. (j == i) ≡ false) [
        | inl f ↦
            let k : at (key_of id) ≡ Some i = q ∙ ap Some (eqb-true j i f) in
            let same : own ≡ id = key_one own id (are i own e) is (a.sound (key_of id) i own k e) in
            absurd (both_ways _ s (subst (λ x. same_id own x ≡ true) same (same_self own)))
        | inr f ↦ f
      ]

-- the ids of the program's pages
pub ids_are : ((p : PageValue) → IsPage (page_of p)) → (pages : List PageValue) (i : ℕ) (id : Id) → slice_get (ids_of pages) i ≡ Some id → IsId id
ids_are rules (p ∷ pages) zero id e = subst IsId (let h : (page_of p).id ≡ id = cc in h) (rules p).id
ids_are rules (p ∷ pages) (suc i) id e = ids_are rules pages i id e
ids_are rules [] i id e = let h : None ≡ Some id = e in cc

pub id_at : (pages : List PageValue) (i : ℕ) (p : PageValue) → i < length pages → p ≡ get_or pages i p → slice_get (ids_of pages) i
    ≡ Some (page_of p).id
id_at pages i p lt e = slice_get-map (λ q. (page_of q).id) pages i
    ∙ ap (option_map (λ q. (page_of q).id)) (slice_get_read pages (length pages) i p refl lt e)

-- the id of the page at the same index
pub id_of_page : (pages : List PageValue) (i : ℕ) (p : Page) → slice_get (map page_of pages) i ≡ Some p → slice_get (ids_of pages) i ≡ Some p.id
id_of_page [] i p e = let h : None ≡ Some p = e in cc
id_of_page (q ∷ pages) zero p e = let h : page_of q ≡ p = cc in ap (λ x. Some x.id) h
id_of_page (q ∷ pages) (suc i) p e = id_of_page pages i p e
