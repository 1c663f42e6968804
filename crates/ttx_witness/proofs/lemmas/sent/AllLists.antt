-- The lists of all items of all pages, before the first slot and after the last.
use Rattle.std.proofs.Common.{◌≡◌, ℕ, zero, suc, ◌+◌, ◌*◌, ◌/◌, ◌%◌, ◌<◌, ◌≤◌, ℤ, pos, List, [], ◌∷◌, ◌++◌, map, length, get_or, slice_get}
use Rattle.std.proofs.Common.{Option, Some, refl, sym, ap, ◌∙◌, subst, inl, inr, arith, mod-lt}
use Rattle.std.specs.List.{All, AllByRecursion}
use Rattle.std.proofs.lemmas.List.{length-map}
use Rattle.std.proofs.lemmas.Option.{slice_get_cases}
use Rattle.std.proofs.lemmas.Bool.{cases_lt}
use Rattle.std.proofs.Math.ListN.{get_or-eq_default}
use Rattle.ttx_header.specs.Ids.{Id, IsId}
use Rattle.ttx_cycle.specs.Files.{IsCycle}
use Rattle.ttx_page.specs.Packets.{packet_of}
use Rattle.ttx_page.specs.Views.{page_of, ids_of}
use Rattle.ttx_page.specs.Streams.{Stream, repeated}
use Rattle.ttx_page.specs.declared.page.Page.{Page as PageValue}
use Rattle.ttx_page.specs.declared.item.Item.{Item}
use Rattle.ttx_page.specs.declared.item.Item.TheVariants.{Head as TheHead, Row as TheRow, Links as TheLinks}
use Rattle.smallvec.specs.SmallVec.{SmallVec}
use Rattle.ttx_witness.specs.runs.Transmissions.{Transmission}
use Rattle.ttx_witness.specs.runs.Tracks.{AreInOrder, IsWithin}
use Rattle.ttx_witness.specs.sent.ItemTransmissions.{PageOwner, owner_after, owner_scan, sent_at, sent_scan, sent_after}
use Rattle.ttx_witness.specs.sent.Collected.{held, place_of_item, item_number, IsItem, AreCollected}
use Rattle.ttx_witness.specs.sent.AllSent.{AreSentAfter}
use Rattle.ttx_witness.specs.declared.sent.collected.Collected.{Collected}
use Rattle.ttx_witness.proofs.lemmas.sent.EntryOwners.{slot_here}
use Rattle.ttx_witness.proofs.lemmas.sent.ListsInPlaces.{held_is}
use Rattle.ttx_witness.proofs.lemmas.sent.FirstPeriod.{after_within, after_in_order}
use Rattle.ttx_witness.proofs.lemmas.sent.PageIndexes.{id_of_page}

abbrev Lists : Type 0
Lists = List (SmallVec Transmission)

pub held_push : (vs : Lists) (v : SmallVec Transmission) → v.items ≡ [] → ((n : ℕ) → held vs n ≡ []) → (n : ℕ) → held (vs ++ v ∷ []) n ≡ []
held_push [] v e h zero = e
held_push [] v e h (suc n) = refl
held_push (x ∷ vs) v e h zero = h zero
held_push (x ∷ vs) v e h (suc n) = held_push vs v e (λ m. h (suc m)) n

-- the owner after one more slot
pub owner_more : (id : Id) (cycle : List (List ℕ)) (entry old new : Option PageOwner) (j : ℕ) (k : ℤ) (d : List ℕ) → j < length cycle →
    k ≡ pos j → old ≡ owner_scan id (repeated cycle) entry j →
    new ≡ owner_after id k (packet_of (get_or cycle j d)) old → new ≡ owner_scan id (repeated cycle) entry (j + 1)
unfolding owner_scan
owner_more id cycle entry old new j k d lt e h g =
    g ∙ ap (λ z. owner_after id z (packet_of (get_or cycle j d)) old) e ∙ ap (owner_after id (pos j) (packet_of (get_or cycle j d))) h
    ∙ ap (λ x. owner_after id (pos j) (packet_of x) (owner_scan id (repeated cycle) entry j)) (sym (slot_here cycle j d lt))
    ∙ ap (owner_scan id (repeated cycle) entry) (let q : suc j ≡ j + 1 = omega arith in q)

-- the transmissions after one more slot
pub sent_more : (id : Id) (lines : ℕ) (item : Item) (cycle : List (List ℕ)) (entry old : Option PageOwner) (ts us : List Transmission)
    (j : ℕ) (k : ℤ) (d : List ℕ) → j < length cycle → k ≡ pos j →
    old ≡ owner_scan id (repeated cycle) entry j → ts ≡ sent_scan id lines item (repeated cycle) entry j →
    us ≡ ts ++ sent_at id lines item k (packet_of (get_or cycle j d)) old → us ≡ sent_scan id lines item (repeated cycle) entry (j + 1)
unfolding sent_scan
sent_more id lines item cycle entry old ts us j k d lt e h t g =
    g ∙ ap (λ z. ts ++ sent_at id lines item z (packet_of (get_or cycle j d)) old) e
    ∙ ap (λ o. ts ++ sent_at id lines item (pos j) (packet_of (get_or cycle j d)) o) h
    ∙ ap (λ x. ts ++ sent_at id lines item (pos j) (packet_of x) (owner_scan id (repeated cycle) entry j)) (sym (slot_here cycle j d lt))
    ∙ ap (λ x. x ++ sent_at id lines item (pos j) (packet_of (repeated cycle (pos j))) (owner_scan id (repeated cycle) entry j)) t
    ∙ ap (sent_scan id lines item (repeated cycle) entry) (let q : suc j ≡ j + 1 = omega arith in q)

pub nothing_sent : (id : Id) (lines : ℕ) (item : Item) (s : Stream) (entry : Option PageOwner) → [] ≡ sent_scan id lines item s entry 0
unfolding sent_scan
nothing_sent id lines item s entry = refl

pub place_below : (i : ℕ) (item : Item) (n : ℕ) → i < n → IsItem item → place_of_item i item < 26 * n
place_below i TheHead n lt is = omega arith
place_below i (TheRow r) n lt is = omega arith
place_below i TheLinks n lt is = omega arith

-- the item at a place
item_for : (r : ℕ) → r < 26 → (item : Item) × IsItem item × (item_number item ≡ r)
item_for r lt = elim (cases_lt 0 r) as (λ _. (item : Item) × IsItem item × (item_number item ≡ r)) [
  | inr low ↦ (TheHead, tt, (let e : 0 ≡ r = omega arith in e))
  | inl high ↦ elim (cases_lt r 25) as (λ _. (item : Item) × IsItem item × (item_number item ≡ r))
      [ inl below ↦ (TheRow r, (omega arith, omega arith), refl) | inr last ↦ (TheLinks, tt, (let e : 25 ≡ r = omega arith in e)) ]
]

pub all_by_place : {A : Type 0} (P : A → Type 0) (xs : List A) → AllByRecursion P xs → All P xs
all_by_place P [] h k d lt = absurd (omega arith)
all_by_place P (x ∷ xs) h zero d lt = h.0
all_by_place P (x ∷ xs) h (suc k) d lt = all_by_place P xs h.1 k d (omega arith)

pub none_in_order : AreInOrder []
none_in_order = record {
  low = λ k d lt. absurd (omega arith);
  high = λ k d lt. absurd (omega arith);
  rising = λ i j d lt in_range.
      absurd (omega arith);
}

module _ (ids : List Id) (are : (i : ℕ) (id : Id) → slice_get ids i ≡ Some id → IsId id) (before : List (List ℕ))
    (before_is : IsCycle before) (cycle : List (List ℕ)) (is : IsCycle cycle) (lines : ℕ) where
  -- what holds for the transmissions of each item holds for each list that is kept
  all_kept : (Keeps : List Transmission → Type 0) → Keeps [] →
      ((id : Id) (item : Item) → Keeps (sent_after before cycle id lines item)) → (lists : Lists) →
      AreCollected ids before cycle lines (length cycle) lists →
      (n : ℕ) → Keeps (held lists n)
  all_kept Keeps none each lists a n = elim (cases_lt n (length lists)) as (λ _. Keeps (held lists n)) [
    | inl below ↦
        let count = a.count in
        elim (slice_get_cases ids (n / 26)).1 as (λ _. Keeps (held lists n)) [
          | inl w ↦
              let r = item_for (n % 26) (mod-lt n (omega arith)) in
              let place_is : place_of_item (n / 26) r.0 ≡ n = let e = r.2 in omega arith in
              let list_is : held lists n ≡ sent_after before cycle w.0 lines r.0 = ap (held lists) (sym place_is)
              ∙ a.each (n / 26) w.0 r.0 w.2 (are (n / 26) w.0 w.2) r.1 in
              subst Keeps (sym list_is) (each w.0 r.0)
          | inr past ↦ let p = past.0 in absurd (omega arith)
        ]
    | inr above ↦ subst Keeps (sym (get_or-eq_default (map (λ v. v.items) lists) [] (let l = length-map lists (λ v. v.items) in omega arith))) none
  ]

  some : 1 ≤ length before
  some = let s = before_is.some in omega arith

  -- the numbers in all lists are small
  pub all_within : (lists : Lists) → AreCollected ids before cycle lines (length cycle) lists → (n : ℕ) → All (IsWithin 65536) (held lists n)
  all_within lists a n = all_by_place (IsWithin 65536) (held lists n) (all_kept (AllByRecursion (IsWithin 65536)) tt
      (λ id item. after_within before cycle before_is.most is.most id lines item) lists a n)

  -- and their slots rise
  pub all_in_order : (lists : Lists) → AreCollected ids before cycle lines (length cycle) lists → (n : ℕ) → AreInOrder (held lists n)
  all_in_order = all_kept AreInOrder none_in_order (λ id item. after_in_order before cycle some is.most id lines item)

-- the lists kept for pages
pub all_sent : (pages : List PageValue) → ((i : ℕ) (id : Id) → slice_get (ids_of pages) i ≡ Some id → IsId id) →
    (before cycle : List (List ℕ)) (lines : ℕ) (c : Collected) →
    AreCollected (ids_of pages) before cycle lines (length cycle) c.lists.items → AreSentAfter before cycle (map page_of pages) lines c
all_sent pages are before cycle lines c a = record {
  count = let l = length-map pages (λ p. (page_of p).id) in let m = length-map pages page_of in let n = a.count in omega arith;
  each = λ i p item at is. let e : slice_get (ids_of pages) i ≡ Some p.id = id_of_page pages i p at in a.each i p.id item e (are i p.id e) is;
}

pub all_by_recursion : {A : Type 0} (P : A → Type 0) (xs : List A) → All P xs → AllByRecursion P xs
all_by_recursion P [] h = tt
all_by_recursion P (x ∷ xs) h = (h zero x (omega arith), all_by_recursion P xs (λ k d lt. h (suc k) d (omega arith)))

-- the list that is read at a place
pub held_read : (vs : Lists) (i n : ℕ) (item : Item) (v : SmallVec Transmission) (ts : List Transmission) → ts ≡ v.items → n
    ≡ item_number item → IsItem item → i < length vs / 26 →
    v ≡ get_or vs (26 * i + n) v → ts ≡ held vs (place_of_item i item)
held_read vs i n item v ts t e is below read =
    let p = place_below i item (i + 1) (omega arith) is in
    let low : place_of_item i item < length vs = omega arith in
    let read_here : v ≡ get_or vs (place_of_item i item) v = subst (λ k. v ≡ get_or vs (26 * i + k) v) e read in
    t ∙ ap (λ x. x.items) read_here ∙ sym (held_is vs (place_of_item i item) v low)
