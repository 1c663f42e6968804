-- The slots of the transmissions that are collected in a period.
use Rattle.std.proofs.Common.{◌≡◌, ◌⊎◌, ◌↔◌, ℕ, zero, suc, ◌+◌, ◌<◌, ◌≤◌, ℤ, pos, ◌+ℤ◌, ◌<ℤ◌, ◌≤ℤ◌, unsigned_abs, true, ◌==◌, List, [], ◌∷◌, ◌++◌}
use Rattle.std.proofs.Common.{length, take, get_or, slice_index_or, refl, sym, ap, ◌∙◌, subst, inl, inr, arith, eqb-true, eq-eqb}
use Rattle.std.specs.List.{Contains}
use Rattle.std.proofs.lemmas.Int.{ints}
use Rattle.std.proofs.lemmas.Bool.{cases_lt}
use Rattle.std.proofs.lemmas.List.{get_or_default}
use Rattle.std.proofs.lemmas.List.Elements.{Contains-append_left, Contains-push, Contains-push_cases}
use Rattle.ttx_header.specs.Ids.{Id}
use Rattle.ttx_page.proofs.SlotDistances.{cases_ltz}
use Rattle.ttx_page.specs.Pages.{Page}
use Rattle.ttx_page.specs.declared.item.Item.{Item}
use Rattle.ttx_page.specs.Streams.{Stream, repeated, IsOwned, IsSure, IsTransmission}
use Rattle.ttx_witness.specs.runs.Transmissions.{Transmission}
use Rattle.ttx_witness.specs.runs.Repeating.{AreSent}
use Rattle.ttx_witness.specs.sent.Collected.{IsItem, item_number}
use Rattle.ttx_witness.specs.sent.ItemTransmissions.{sent_in}
use Rattle.ttx_witness.specs.declared.faults.first_slots.FirstSlots.{FirstSlots}
use Rattle.ttx_witness.specs.faults.FirstSlots.{IsAfter, AreFirstTaken, TakenBelow}
use Rattle.ttx_witness.proofs.lemmas.WholeNumbers.{abs_is}
use Rattle.ttx_witness.proofs.lemmas.search.DueItems.{item_one}
use Rattle.ttx_witness.proofs.lemmas.runs.OneByOne.{take_more}
use Rattle.ttx_witness.proofs.lemmas.sent.CycleTransmissions.{sent_told}
use Rattle.ttx_witness.proofs.lemmas.faults.FirstSlots.{taken_more, taken_same}
use Rattle.ttx_witness.proofs.lemmas.faults.OverOnePeriod.{slot_is}

-- a transmission in slot j is in the list
abbrev pub HasSlot : List Transmission → ℤ → Type 0
HasSlot ts j = (t : Transmission) × Contains ts t × (t.slot ≡ j)

-- a list of a period's transmissions has their slots, and no others
module _ (s : Stream) (page : Id) (lines : ℕ) (item : Item) (end : ℤ) where
  abbrev Listed : ℤ → List Transmission → Type 0
  Listed low ts = AreSent (IsOwned s page item) (IsSure s lines page.mag item) low end ts

  listed_is : (low : ℤ) (ts : List Transmission) → Listed low ts → (t : Transmission) (k : ℕ) → k < length ts → get_or ts k t ≡ t →
      (low ≤ℤ t.slot) × (t.slot <ℤ end) × IsTransmission s page item t.slot
  listed_is low [] l t k lt e = absurd (omega arith)
  listed_is low (u ∷ ts) l t zero lt e = subst (λ x. (low ≤ℤ x.slot) × (x.slot <ℤ end) × IsTransmission s page item x.slot) e
      (l.1, l.2, record { owner = u.owner; owned = l.0.owned })
  listed_is low (u ∷ ts) l t (suc k) lt e =
      let r = listed_is (u.slot +ℤ pos 1) ts l.4 t k (omega arith) e in
      let from = r.0 in let more = l.1 in (omega (arith, ints), r.1, r.2)

  listed_from : (low : ℤ) (ts : List Transmission) → Listed low ts → (x : ℤ) → low ≤ℤ x → x <ℤ end → IsTransmission s page item x → HasSlot ts x
  listed_from low [] l x lo hi t = absurd (l x lo hi (record { owner = t.owner; owned = t.owned }))
  listed_from low (u ∷ ts) l x lo hi t = elim (cases_ltz x u.slot) as (λ _. HasSlot (u ∷ ts) x) [
    | inl lt ↦ absurd (l.3 x lo lt (record { owner = t.owner; owned = t.owned }))
    | inr ge ↦ elim (cases_ltz u.slot x) as (λ _. HasSlot (u ∷ ts) x) [
      | inl less ↦
          let r = listed_from (u.slot +ℤ pos 1) ts l.4 x (omega (arith, ints)) hi t in
          let at = r.1 in let within = at.1 in (r.0, (suc at.0, omega arith, at.2), r.2)
      | inr le ↦ let e : u.slot ≡ x = omega (arith, ints) in (u, (0, omega arith, refl), e)
    ]
  ]

module _ (cycle : List (List ℕ)) (some : 1 ≤ length cycle) (page : Id) (lines : ℕ) (item : Item) where
  abbrev sent : List Transmission
  sent = sent_in cycle page lines item

  slot_is_sent : (t : Transmission) (k : ℕ) → k < length sent → get_or sent k t ≡ t →
      (pos 0 ≤ℤ t.slot) × (t.slot <ℤ pos (length cycle)) × IsTransmission (repeated cycle) page item t.slot
  slot_is_sent = listed_is (repeated cycle) page lines item (pos (length cycle)) (pos 0) sent (sent_told cycle some page lines item)

  slots_are : (j : ℕ) → HasSlot sent (pos j) ↔ ((j < length cycle) × IsTransmission (repeated cycle) page item (pos j))
  slots_are j = (
    (λ h.
        let r = slot_is_sent h.0 h.1.0 h.1.1 h.1.2 in
        let e : h.0.slot ≡ pos j = h.2 in
        let below = r.1 in (omega (arith, ints), subst (IsTransmission (repeated cycle) page item) e r.2)),
    (λ t. let lt = t.0 in
        listed_from (repeated cycle) page lines item (pos (length cycle)) (pos 0) sent (sent_told cycle some page lines item) (pos j)
        (omega (arith, ints)) (omega (arith, ints)) t.1),
  )

-- the items below a number are taken, and a list of the item with this number
module _ (cycle : List (List ℕ)) (p : Page) (number : ℕ) where
  abbrev s : Stream
  s = repeated cycle

  abbrev pub TakenWith : List Transmission → Item → ℕ → Type 0
  TakenWith ts item j = TakenBelow cycle p.id number item j ⊎ ((item_number item ≡ number) × HasSlot ts (pos j))

  -- before the first transmission
  pub none_taken_with : (f : FirstSlots) → AreFirstTaken p s (TakenBelow cycle p.id number) f → AreFirstTaken p s (TakenWith []) f
  none_taken_with = taken_same p s (TakenBelow cycle p.id number) (TakenWith [])
      (λ item it j. (
        (λ b. inl b),
        (λ t. elim t as (λ _. TakenBelow cycle p.id number item j) [ inl b ↦ b | inr h ↦ let lt = h.1.1.1 in absurd (omega arith) ]),
      ))

  -- one more
  one_taken_with : (done : List Transmission) (u : Transmission) (j : ℕ) → u.slot ≡ pos j → (f new : FirstSlots) →
      IsAfter p (λ item. item_number item == number) (s (pos j)) j f new →
      AreFirstTaken p s (TakenWith done) f → AreFirstTaken p s (TakenWith (done ++ u ∷ [])) new
  one_taken_with done u j slot f new = taken_more p s s (TakenWith done) (TakenWith (done ++ u ∷ [])) (λ item. item_number item == number) j
      (λ item at i. (to item i, from item i)) (λ item i t. refl) f new
    where
      to : (item : Item) (i : ℕ) → TakenWith (done ++ u ∷ []) item i → TakenWith done item i ⊎ ((i ≡ j) × ((item_number item == number) ≡ true))
      to item i (inl b) = inl (inl b)
      to item i (inr h) = elim (Contains-push_cases done u h.1.0 h.1.1) as
          (λ _. TakenWith done item i ⊎ ((i ≡ j) × ((item_number item == number) ≡ true))) [
            | inl c ↦ inl (inr (h.0, (h.1.0, c, h.1.2)))
            | inr same ↦
                let at : pos i ≡ pos j = sym h.1.2 ∙ ap (λ t. t.slot) (sym same) ∙ slot in
                let k : i ≡ j = omega (arith, ints) in inr (k, eq-eqb (item_number item) number h.0)
          ]

      from : (item : Item) (i : ℕ) → TakenWith done item i ⊎ ((i ≡ j) × ((item_number item == number) ≡ true)) → TakenWith (done ++ u ∷ []) item i
      from item i (inl (inl b)) = inl b
      from item i (inl (inr h)) = inr (h.0, (h.1.0, Contains-append_left done (u ∷ []) h.1.0 h.1.1, h.1.2))
      from item i (inr h) = inr (eqb-true (item_number item) number h.1, (u, Contains-push done u, slot ∙ ap pos (sym h.0)))

  module _ (some : 1 ≤ length cycle) (lines : ℕ) (own : Item) (it : IsItem own) (is : item_number own ≡ number) where
    pub next_taken_with : (ts : List Transmission) → ts ≡ sent_in cycle p.id lines own → (i : ℕ) (d : Transmission) → i < length ts →
        (f new : FirstSlots) →
        ((j : ℕ) → (get_or ts i d).slot ≡ pos j → j < length cycle →
        IsAfter p (λ item. item_number item == number) (slice_index_or cycle j []) j f new) →
        AreFirstTaken p s (TakenWith (take i ts)) f → AreFirstTaken p s (TakenWith (take (i + 1) ts)) new
    next_taken_with ts e i d lt f new after a =
        let u = get_or ts i d in
        let r = slot_is_sent cycle some p.id lines own u i (subst (λ l. i < length l) e lt)
        (ap (λ l. get_or l i u) (sym e) ∙ get_or_default ts i u d lt) in
        let low = r.0 in let high = r.1 in
        let j = unsigned_abs u.slot in
        let at : pos j ≡ u.slot = abs_is u.slot low in
        let within : j < length cycle = omega (arith, ints, at) in
        subst (λ l. AreFirstTaken p s (TakenWith l) new) (take_more ts i d lt)
        (one_taken_with (take i ts) u j (sym at) f new
        (subst (λ x. IsAfter p (λ item. item_number item == number) x j f new) (sym (slot_is cycle j within)) (after j (sym at) within)) a)

    -- after the last one
    pub all_taken_with : (f : FirstSlots) → AreFirstTaken p s (TakenWith (sent_in cycle p.id lines own)) f →
        AreFirstTaken p s (TakenBelow cycle p.id (number + 1)) f
    all_taken_with = taken_same p s (TakenWith (sent_in cycle p.id lines own)) (TakenBelow cycle p.id (number + 1)) (λ item at j. (to item at j, from item at j))
      where
        to : (item : Item) → IsItem item → (j : ℕ) → TakenWith (sent_in cycle p.id lines own) item j → TakenBelow cycle p.id (number + 1) item j
        to item at j (inl b) = (let lt = b.0 in omega arith, b.1, b.2)
        to item at j (inr h) =
            let e = h.0 in
            let t = (slots_are cycle some p.id lines own j).0 h.1 in
            (omega arith, t.0, subst (λ i. IsTransmission s p.id i (pos j)) (item_one own item it at (is ∙ sym e)) t.1)

        from : (item : Item) → IsItem item → (j : ℕ) → TakenBelow cycle p.id (number + 1) item j → TakenWith (sent_in cycle p.id lines own) item j
        from item at j t = elim (cases_lt (item_number item) number) as (λ _. TakenWith (sent_in cycle p.id lines own) item j) [
          | inl lt ↦ inl (lt, t.1, t.2)
          | inr ge ↦
              let less = t.0 in
              let e : item_number item ≡ number = omega arith in
              inr (
                e,
                (slots_are cycle some p.id lines own j).1
                    (t.1, subst (λ i. IsTransmission s p.id i (pos j)) (item_one item own at it (e ∙ sym is)) t.2),
              )
        ]
