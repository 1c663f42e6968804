-- Hits and their sorted numbers describe the same bits.
use Rattle.std.proofs.Common.{◌≡◌, ◌⊎◌, ℕ, ◌+◌, ◌*◌, ◌<◌, List, length, get_or, map, refl, sym, ap, ◌∙◌, subst, inl, inr, arith}
use Rattle.std.specs.List.{All, AllPairs, Contains, swap}
use Rattle.std.specs.Prelude.{IsPermutation}
use Rattle.std.proofs.lemmas.Bool.{cases_lt, cases_eq}
use Rattle.std.proofs.lemmas.List.{get_or-map, get_or_default, length-map}
use Rattle.std.proofs.lemmas.List.Sorted.{IsPermutation-sym, IsPermutation-keeps, Contains-permutation}
use Rattle.std.proofs.lemmas.List.Edits.{length-swap, swapped_from_swap}
use Rattle.ttx_page.specs.Streams.{Stream}
use Rattle.ttx_counter.specs.Counters.{Hit, IsHit, IsHitIn, flipped}
use Rattle.ttx_counter.specs.Keys.{hit_key, key_at, slot_in, byte_in, bit_in, byte_place, IsKey, AreHitOnce}
use Rattle.ttx_counter.specs.Hearing.{IsHitBy}
use Rattle.ttx_counter.proofs.KeyCursors.{parts}

no_hit : Hit
no_hit = record { index = 0; byte = 0; bit = 0 }

-- any two differ in place, whichever comes first
AreAll : List ℕ → Type 0
AreAll l = (i j : ℕ) → i < length l → j < length l → (i ≡ j → ⊥) → byte_place (get_or l i 0) ≡ byte_place (get_or l j 0) → ⊥

all_from : (l : List ℕ) → AreHitOnce l → AreAll l
unfolding AreAll
all_from l a i j p q ne e = elim (cases_lt i j) as (λ _. ⊥) [ inl lt ↦ a i j lt q e | inr ge ↦ a j i (omega arith) p (sym e) ]

apart_from : (l : List ℕ) → AreAll l → AreHitOnce l
unfolding AreAll
apart_from l a i j lt q e = a i j (omega arith) q (λ h. absurd (omega arith)) e

-- the place in the list before a swap
moved : (l : List ℕ) (a b : ℕ) → a < length l → b < length l → (i : ℕ) → i < length l → (k : ℕ) × (k < length l)
    × (get_or (swap l a b) i 0 ≡ get_or l k 0)
    × (((i ≡ a) × (k ≡ b)) ⊎ ((i ≡ b) × (k ≡ a)) ⊎ ((i ≡ a → ⊥) × (i ≡ b → ⊥) × (k ≡ i)))
moved l a b p q i lt =
    let w = swapped_from_swap l (swap l a b) a b 0 p q refl in
    elim (cases_eq i a) as (λ _. (k : ℕ) × (k < length l) × (get_or (swap l a b) i 0 ≡ get_or l k 0)
    × (((i ≡ a) × (k ≡ b)) ⊎ ((i ≡ b) × (k ≡ a)) ⊎ ((i ≡ a → ⊥) × (i ≡ b → ⊥) × (k ≡ i)))) [
      | inl e ↦ (b, q, ap (λ z. get_or (swap l a b) z 0) e ∙ w.0, inl (e, refl))
      | inr na ↦ elim (cases_eq i b) as
          (λ _. (k : ℕ) × (k < length l) × (get_or (swap l a b) i 0 ≡ get_or l k 0)
          × (((i ≡ a) × (k ≡ b)) ⊎ ((i ≡ b) × (k ≡ a)) ⊎ ((i ≡ a → ⊥) × (i ≡ b → ⊥) × (k ≡ i)))) [
            | inl e ↦ (a, p, ap (λ z. get_or (swap l a b) z 0) e ∙ w.1, inr (inl (e, refl)))
            | inr nb ↦ (i, lt, w.2 i na nb, inr (inr (na, nb, refl)))
          ]
    ]

swap_keeps : (l : List ℕ) (a b : ℕ) → a < length l → b < length l → AreAll l → AreAll (swap l a b)
unfolding AreAll
swap_keeps l a b p q all i j lti ltj ne e =
    let len = length-swap l a b in
    let wi = moved l a b p q i (omega (arith, len)) in
    let wj = moved l a b p q j (omega (arith, len)) in
    all wi.0 wj.0 wi.1 wj.1 (λ h. ne (apart wi.0 wj.0 h wi.3 wj.3)) (sym (ap byte_place wi.2) ∙ e ∙ ap byte_place wj.2)
  where
    apart : (x y : ℕ) → x ≡ y → ((i ≡ a) × (x ≡ b)) ⊎ ((i ≡ b) × (x ≡ a)) ⊎ ((i ≡ a → ⊥) × (i ≡ b → ⊥) × (x ≡ i)) → ((j ≡ a) × (y ≡ b))
        ⊎ ((j ≡ b) × (y ≡ a)) ⊎ ((j ≡ a → ⊥) × (j ≡ b → ⊥) × (y ≡ j)) → i ≡ j
    apart x y h (inl s) (inl t) = s.0 ∙ sym t.0
    apart x y h (inl s) (inr (inl t)) = s.0 ∙ sym t.1 ∙ sym h ∙ s.1 ∙ sym t.0
    apart x y h (inl s) (inr (inr t)) = absurd (t.1 (sym t.2 ∙ sym h ∙ s.1))
    apart x y h (inr (inl s)) (inl t) = s.0 ∙ sym t.1 ∙ sym h ∙ s.1 ∙ sym t.0
    apart x y h (inr (inl s)) (inr (inl t)) = s.0 ∙ sym t.0
    apart x y h (inr (inl s)) (inr (inr t)) = absurd (t.0 (sym t.2 ∙ sym h ∙ s.1))
    apart x y h (inr (inr s)) (inl t) = absurd (s.1 (sym s.2 ∙ h ∙ t.1))
    apart x y h (inr (inr s)) (inr (inl t)) = absurd (s.0 (sym s.2 ∙ h ∙ t.1))
    apart x y h (inr (inr s)) (inr (inr t)) = sym s.2 ∙ h ∙ t.2

apart_permuted : (xs ys : List ℕ) → IsPermutation xs ys → AreHitOnce xs → AreHitOnce ys
apart_permuted xs ys p a = apart_from ys (IsPermutation-keeps xs AreAll (all_from xs a) (λ l i j lt lt' all. swap_keeps l i j lt lt' all) ys p)

-- the parts of a hit's number
module _ (s : Stream) (start slots : ℕ) (h : Hit) (is : IsHit s start slots h) where
  pub slot_of_key : slot_in (hit_key h) ≡ h.index
  slot_of_key = let a = is.byte in let b = is.bit in omega arith

  pub byte_of_key : byte_in (hit_key h) ≡ h.byte
  byte_of_key = let a = is.byte in let b = is.bit in omega arith

  pub bit_of_key : bit_in (hit_key h) ≡ h.bit
  bit_of_key = let a = is.byte in let b = is.bit in omega arith

module _ (s : Stream) (start slots : ℕ) (hits : List Hit) (keys : List ℕ) (all : All (IsHit s start slots) hits)
    (same : IsPermutation (map hit_key hits) keys) where
  pub at_hit : (h : Hit) → Contains hits h → IsHit s start slots h
  at_hit h c = subst (IsHit s start slots) c.2 (all c.0 h c.1)

  pub to_key : (h : Hit) → Contains hits h → (i : ℕ) × (i < length keys) × (key_at keys i ≡ hit_key h)
  to_key h c =
      let mapped : Contains (map hit_key hits) (hit_key h) = (
        c.0,
        (let b = c.1 in omega (arith, length-map hits hit_key)),
        get_or-map hit_key hits c.0 h (hit_key h) c.1
            ∙ ap hit_key c.2,
      ) in
      let w = Contains-permutation (map hit_key hits) keys (hit_key h) same mapped in
      (w.0, w.1, get_or_default keys w.0 0 (hit_key h) w.1 ∙ w.2)

  pub from_key : (i : ℕ) → i < length keys → (h : Hit) × Contains hits h × (hit_key h ≡ key_at keys i)
  from_key i lt =
      let w = Contains-permutation keys (map hit_key hits) (key_at keys i) (IsPermutation-sym (map hit_key hits) keys same)
      (i, lt, get_or_default keys i (key_at keys i) 0 lt) in
      let inside : w.0 < length hits = let b = w.1 in omega (arith, length-map hits hit_key) in
      let h = get_or hits w.0 no_hit in
      (h, (w.0, inside, get_or_default hits w.0 h no_hit inside), sym (get_or-map hit_key hits w.0 no_hit (key_at keys i) inside) ∙ w.2)

  pub keys_are : (i : ℕ) → i < length keys → IsKey (key_at keys i)
  keys_are i lt =
      let w = from_key i lt in
      let is = at_hit w.0 w.1 in
      subst IsKey w.2 (record {
        byte = (let b = is.byte in let e = byte_of_key s start slots w.0 is in omega arith);
        some = (let b = is.some in let e = bit_of_key s start slots w.0 is in omega arith);
        bit = (let b = is.bit in let e = bit_of_key s start slots w.0 is in omega arith);
      })

  place_of : (i : ℕ) → i < length hits → (d : Hit) → byte_place (get_or (map hit_key hits) i 0) ≡ (get_or hits i d).index * 256
      + (get_or hits i d).byte
  place_of i lt d =
      let is = all i d lt in
      ap byte_place (get_or-map hit_key hits i d 0 lt) ∙ parts (hit_key (get_or hits i d))
      ∙ (let a = slot_of_key s start slots (get_or hits i d) is in let b = byte_of_key s start slots (get_or hits i d) is in omega arith)

  pub apart_to : AllPairs (λ a b. a.index ≡ b.index → a.byte ≡ b.byte → ⊥) hits → AreHitOnce keys
  apart_to once = apart_permuted (map hit_key hits) keys same (λ i j lt lj e.
      let inside : j < length hits = omega (arith, length-map hits hit_key) in
      let a = (all i no_hit (omega arith)).byte in let b = (all j no_hit inside).byte in
      let pi = place_of i (omega arith) no_hit in let pj = place_of j inside no_hit in
      once i j no_hit lt inside (omega arith) (omega arith))

  pub apart_back : AreHitOnce keys → AllPairs (λ a b. a.index ≡ b.index → a.byte ≡ b.byte → ⊥) hits
  apart_back apart i j d lt lj e f =
      let inside : j < length (map hit_key hits) = omega (arith, length-map hits hit_key) in
      let pi = place_of i (omega arith) d in let pj = place_of j lj d in
      apart_permuted keys (map hit_key hits) (IsPermutation-sym (map hit_key hits) keys same) apart i j lt inside (omega arith)

  module _ (n : ℕ) (sent received : List ℕ) where
    pub hits_to : IsHitIn hits n sent received → IsHitBy keys n sent received
    hits_to r = record {
      size = r.size;
      hit = λ i lt e. let w = from_key i lt in
          let is = at_hit w.0 w.1 in
          let a = slot_of_key s start slots w.0 is in let b = byte_of_key s start slots w.0 is in let d = bit_of_key s start slots w.0 is in
          let at : w.0.index ≡ n = sym a ∙ ap slot_in w.2 ∙ e in
          subst (λ key. get_or received (byte_in key) 0 ≡ flipped (bit_in key) (get_or sent (byte_in key) 0)) w.2
          (rw (b, d) (r.hit w.0 w.1 at));
      other = λ x none. r.other x (λ h c at f.
          let w = to_key h c in
          let is = at_hit h c in
          none w.0 w.1 (ap slot_in w.2 ∙ slot_of_key s start slots h is ∙ at) (ap byte_in w.2 ∙ byte_of_key s start slots h is ∙ f));
    }

    pub hits_back : IsHitBy keys n sent received → IsHitIn hits n sent received
    hits_back r = record {
      size = r.size;
      hit = λ h c at. let w = to_key h c in
          let is = at_hit h c in
          let a = slot_of_key s start slots h is in let b = byte_of_key s start slots h is in let d = bit_of_key s start slots h is in
          let g = r.hit w.0 w.1 (ap slot_in w.2 ∙ a ∙ at) in
          let g' = subst (λ key. get_or received (byte_in key) 0 ≡ flipped (bit_in key) (get_or sent (byte_in key) 0)) w.2 g in
          sym (ap (λ x. get_or received x 0) b) ∙ g' ∙ ap (λ x. flipped (bit_in (hit_key h)) (get_or sent x 0)) b
          ∙ ap (λ x. flipped x (get_or sent h.byte 0)) d;
      other = λ x none. r.other x (λ i lt e f.
          let w = from_key i lt in
          let is = at_hit w.0 w.1 in
          none w.0 w.1 (sym (slot_of_key s start slots w.0 is) ∙ ap slot_in w.2 ∙ e) (sym (byte_of_key s start slots w.0 is) ∙ ap byte_in w.2 ∙ f));
    }
