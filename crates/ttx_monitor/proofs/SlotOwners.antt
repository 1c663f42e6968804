-- The pages of the latest headers, and the rows that slots send under them.
use Rattle.std.proofs.Common.{◌≡◌, ◌↔◌, ℕ, zero, suc, ◌+◌, ◌-◌, ◌<◌, ◌≤◌, Bool, true, false, ◌&&◌, ◌==◌, if◌then◌else◌}
use Rattle.std.proofs.Common.{pos, ◌+ℤ◌, ◌++◌, map, mod-eq_of_lt, List, [], ◌∷◌, length, get_or, set, slice_get, Option, Some, None, refl, sym, ap, ◌∙◌, subst, inl, inr, arith, eqb-true, eq-eqb}
use Rattle.std.specs.Option.{IfSome}
use Rattle.std.proofs.lemmas.Int.{ints}
use Rattle.std.proofs.lemmas.Bool.{cases_Bool, cases_eq, cases_lt, and_parts, ne_eqb}
use Rattle.std.proofs.lemmas.List.{get_or-set_same, get_or-set_other, get_or_append_left, get_or_push, get_or_past, length_push}
use Rattle.ttx_packet.specs.Laws.{RowsAreNumbered}
use Rattle.ttx_header.specs.Ids.{Id, IsId, same_id}
use Rattle.ttx_page.specs.declared.page.Page.{Page as PageValue}
use Rattle.ttx_page.specs.Pages.{Page, IsPage}
use Rattle.ttx_page.specs.Views.{page_of, ids_of}
use Rattle.ttx_page.specs.Packets.{Row, packet_of}
use Rattle.ttx_page.specs.Streams.{Stream, repeated}
use Rattle.ttx_witness.specs.faults.Comparing.{mine_after}
use Rattle.ttx_witness.specs.sent.Collected.{is_page, Finds}
use Rattle.ttx_counter.specs.Listening.{HasOwner, row_sent}
use Rattle.ttx_counter.specs.Cells.{is_row}
use Rattle.ttx_monitor.specs.Places.{is_at, is_owner, AreOwners, AreApart, AreTold}
use Rattle.ttx_counter.proofs.SentRows.{numbered, sent_right, mine_step}
use Rattle.ttx_monitor.specs.declared.places.RowPlace.{RowPlace}

-- a row under an owner
pub row_under : (ids : List Id) (owners : List (Option ℕ)) → AreApart ids owners → (i : ℕ) (id : Id) → slice_get ids i ≡ Some id → IsId id →
    (mag number : ℕ) (text : List ℕ) → 1 ≤ mag → mag ≤ 8 → (r : ℕ) →
    (is_page i (get_or owners (mag - 1) None) && (number == r)) ≡ is_row r (row_sent id (Row mag number text) (is_owner i id owners))
row_under ids owners apart i id is of_id mag number text low high r = elim (cases_eq mag id.mag) as
    (λ _. (is_page i (get_or owners (mag - 1) None) && (number == r)) ≡ is_row r (row_sent id (Row mag number text) (is_owner i id owners))) [
      | inl e ↦
          ap (λ z. is_page i (get_or owners (z - 1) None) && (number == r)) e
          ∙ sym (ap (λ z. is_row r (if is_owner i id owners && z then Some number else None)) (eq-eqb mag id.mag e)
          ∙ both (is_owner i id owners))
      | inr ne ↦
          ap (λ z. z && (number == r)) (apart (mag - 1) i id (omega arith) is of_id (λ e. ne (omega arith)))
          ∙ sym (ap (λ z. is_row r (if is_owner i id owners && z then Some number else None)) (ne_eqb mag id.mag ne)
          ∙ none (is_owner i id owners))
    ]
  where
    both : (mine : Bool) → is_row r (if mine && true then Some number else None) ≡ (mine && (number == r))
    both true = refl
    both false = refl

    none : (mine : Bool) → is_row r (if mine && false then Some number else None) ≡ false
    none true = refl
    none false = refl

same_mag : (a b : Id) → same_id a b ≡ true → a.mag ≡ b.mag
same_mag a b h = eqb-true _ _ (and_parts _ _ (and_parts _ _ h).0).0

-- the page of a header becomes the owner of its own magazine
pub stay_apart : (ids : List Id) (owners new : List (Option ℕ)) → length owners ≡ 8 → AreApart ids owners → (header : Id) → 1 ≤ header.mag →
    header.mag ≤ 8 → (page : Option ℕ) → Finds ids header page → new ≡ set owners (header.mag - 1) page → AreApart ids new
stay_apart ids owners new size apart header low high page finds e m i id lt is of_id other =
    subst (λ l. is_page i (get_or l m None) ≡ false) (sym e)
    (elim (cases_eq m (header.mag - 1)) as (λ _. is_page i (get_or (set owners (header.mag - 1) page) m None) ≡ false) [
      | inl q ↦
          subst (λ z. is_page i (get_or (set owners (header.mag - 1) page) z None) ≡ false) (sym q)
          (subst (λ z. is_page i z ≡ false) (sym (get_or-set_same owners (header.mag - 1) page None (omega arith)))
          (finds i id is ∙ elim (cases_Bool (same_id id header)) as (λ _. same_id id header ≡ false) [
            | inl h ↦ absurd (let g = same_mag id header h in other (omega arith))
            | inr h ↦ h
          ]))
      | inr ne ↦
          subst (λ z. is_page i z ≡ false) (sym (get_or-set_other owners (header.mag - 1) m page None ne)) (apart m i id lt is of_id other)
    ])

-- before any slot
pub no_owner : (i m : ℕ) → is_page i (get_or (None ∷ None ∷ None ∷ None ∷ None ∷ None ∷ None ∷ None ∷ []) m None) ≡ false
no_owner i zero = refl
no_owner i (suc zero) = refl
no_owner i (suc (suc zero)) = refl
no_owner i (suc (suc (suc zero))) = refl
no_owner i (suc (suc (suc (suc zero)))) = refl
no_owner i (suc (suc (suc (suc (suc zero))))) = refl
no_owner i (suc (suc (suc (suc (suc (suc zero)))))) = refl
no_owner i (suc (suc (suc (suc (suc (suc (suc zero))))))) = refl
no_owner i (suc (suc (suc (suc (suc (suc (suc (suc m)))))))) = refl

-- one more slot
pub few_more : (P : RowPlace → Type 0) (old : List (Option RowPlace)) (place : Option RowPlace) → ((j : ℕ) → IfSome (get_or old j None) P) →
    IfSome place P → (j : ℕ) → IfSome (get_or (old ++ place ∷ []) j None) P
few_more P old place all here j = elim (cases_lt j (length old)) as (λ _. IfSome (get_or (old ++ place ∷ []) j None) P) [
  | inl lt ↦ subst (λ o. IfSome o P) (sym (get_or_append_left old (place ∷ []) None j lt)) (all j)
  | inr ge ↦ elim (cases_eq j (length old)) as (λ _. IfSome (get_or (old ++ place ∷ []) j None) P) [
    | inl e ↦ subst (λ o. IfSome o P) (sym (get_or_push old place None j (sym e))) here
    | inr ne ↦ subst (λ o. IfSome o P) (sym (get_or_past (old ++ place ∷ []) j None (let l = length_push old place in omega arith))) tt
  ]
]

pub told_more : (ids : List Id) (s : Stream) (old : List (Option RowPlace)) (place : Option RowPlace) (n : ℕ) → length old ≡ n →
    ((j : ℕ) → j < n → AreTold ids s (pos j) (get_or old j None)) → AreTold ids s (pos n) place →
    (j : ℕ) → j < n + 1 → AreTold ids s (pos j) (get_or (old ++ place ∷ []) j None)
told_more ids s old place n size all here j lt = elim (cases_lt j n) as (λ _. AreTold ids s (pos j) (get_or (old ++ place ∷ []) j None)) [
  | inl before ↦ subst (AreTold ids s (pos j)) (sym (get_or_append_left old (place ∷ []) None j (omega arith))) (all j before)
  | inr after ↦
      let e : n ≡ j = omega arith in
      subst (λ m. AreTold ids s (pos m) (get_or (old ++ place ∷ []) m None)) e
      (subst (AreTold ids s (pos n)) (sym (get_or_push old place None n size)) here)
]

pub told_here : RowsAreNumbered → (ids : List Id) (s : Stream) (j : ℕ) (owners : List (Option ℕ)) (place : Option RowPlace) (slot : List ℕ) →
    s (pos j) ≡ slot → AreOwners ids s (pos j) owners →
    ((i : ℕ) (id : Id) → slice_get ids i ≡ Some id → IsId id → (r : ℕ) → is_at i r place ≡ is_row r (row_sent id (packet_of slot) (is_owner i id owners)))
    → AreTold ids s (pos j) place
told_here numbers ids s j owners place slot here own is i id r at of_id low =
    let w = sent_right s id (pos j) (is_owner i id owners) (own i id at of_id) (numbered numbers (s (pos j))) r in
    let e : is_at i r place ≡ is_row r (row_sent id (packet_of (s (pos j))) (is_owner i id owners)) =
    is i id at of_id r ∙ ap (λ z. is_row r (row_sent id (packet_of z) (is_owner i id owners))) (sym here) in (
      (λ h. w.0 (sym e ∙ h)),
      (λ a. e ∙ w.1 a),
    )

pub owners_on : (ids : List Id) (s : Stream) (j : ℕ) (owners new : List (Option ℕ)) (slot : List ℕ) → s (pos j) ≡ slot →
    AreOwners ids s (pos j) owners →
    ((i : ℕ) (id : Id) → slice_get ids i ≡ Some id → IsId id → is_owner i id new ≡ mine_after id (packet_of slot) (is_owner i id owners)) →
    AreOwners ids s (pos (j + 1)) new
owners_on ids s j owners new slot here own is i id at of_id =
    let e : is_owner i id new ≡ mine_after id (packet_of (s (pos j))) (is_owner i id owners) =
    is i id at of_id ∙ ap (λ z. mine_after id (packet_of z) (is_owner i id owners)) (sym here) in
    let q : pos j +ℤ pos 1 ≡ pos (j + 1) = omega (arith, ints) in
    subst (λ b. (b ≡ true) ↔ HasOwner s id (pos (j + 1))) (sym e)
    (subst (λ z. (mine_after id (packet_of (s (pos j))) (is_owner i id owners) ≡ true) ↔ HasOwner s id z) q
    (mine_step s id (pos j) (is_owner i id owners) (own i id at of_id)))

-- a slot of the cycle's first period
pub slot_here : (cycle : List (List ℕ)) (j : ℕ) → j < length cycle → repeated cycle (pos j) ≡ get_or cycle j []
slot_here cycle j lt = ap (λ z. get_or cycle z []) (mod-eq_of_lt lt)

-- the ids of the program's pages
pub ids_are : ((p : PageValue) → IsPage (page_of p)) → (pages : List PageValue) (i : ℕ) (id : Id) → slice_get (ids_of pages) i ≡ Some id → IsId id
ids_are rules (p ∷ pages) zero id e = subst IsId (let h : (page_of p).id ≡ id = cc in h) (rules p).id
ids_are rules (p ∷ pages) (suc i) id e = ids_are rules pages i id e
ids_are rules [] i id e = let h : None ≡ Some id = e in cc

pub id_of_page : (pages : List PageValue) (i : ℕ) (p : Page) → slice_get (map page_of pages) i ≡ Some p → slice_get (ids_of pages) i ≡ Some p.id
id_of_page [] i p e = let h : None ≡ Some p = e in cc
id_of_page (q ∷ pages) zero p e = let h : page_of q ≡ p = cc in ap (λ x. Some x.id) h
id_of_page (q ∷ pages) (suc i) p e = id_of_page pages i p e
