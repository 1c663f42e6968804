-- The slots of one block, with empty slots around it: a receiver makes the same of the block there as in the whole stream.
use Rattle.std.proofs.Common.{◌≡◌, ◌⊎◌, ℕ, ◌<◌, ◌≤◌, ℤ, pos, ◌+ℤ◌, ◌<ℤ◌, ◌≤ℤ◌, true, false, List, [], ◌∷◌, length, get_or, zero, suc, replicate, refl, sym, ap, ◌∙◌, subst}
use Rattle.std.proofs.Common.{inl, inr, arith, lit<}
use Rattle.std.proofs.lemmas.Int.{ints}
use Rattle.std.proofs.lemmas.Bool.{both_ways}
use Rattle.std.specs.List.{AllByRecursion}
use Rattle.std.specs.Prelude.{slice_index}
use Rattle.ttx_packet.specs.Slots.{IsSlot, is_empty, is_clean}
use Rattle.ttx_packet.specs.Receptions.{MayBeReceivedAs}
use Rattle.ttx_header.specs.Ids.{Id}
use Rattle.ttx_page.specs.Packets.{Empty, packet_of}
use Rattle.ttx_page.specs.Pages.{Page, IsPage, matches, needed}
use Rattle.ttx_page.specs.declared.selection.Selection.{Selection}
use Rattle.ttx_page.specs.declared.item.Item.{Item}
use Rattle.ttx_page.specs.declared.item.Item.TheVariants.{Head as TheHead, Row as TheRow, Links as TheLinks}
use Rattle.ttx_page.specs.declared.class.Class.TheVariants.{Any}
use Rattle.ttx_page.specs.Memories.{Memory, IsMemory}
use Rattle.ttx_page.specs.Receivers.{Run}
use Rattle.ttx_page.specs.Streams.{Stream, heads, heads_page, heads_matched, ends_serial, carries, IsLatestHeader, IsOwned, IsSure}
use Rattle.ttx_page.specs.Streams.{run_length, AreSuccessive}
use Rattle.ttx_page.specs.Receptions.{Received, IsRight, OneIs, IsTextByte}
use Rattle.ttx_page.specs.Steady.{IsChecked, IsTrueTo}
use Rattle.ttx_page.proofs.SlotDistances.{cases_ltz}
use Rattle.ttx_receiver.specs.Laws.{IsSteadyFrom, IsBrought}
use Rattle.ttx_late.proofs.KeptSlots.{packet_empty}
use Rattle.ttx_late.proofs.RunsAreShown.{owner_heads, page_matched}
use Rattle.ttx_certify.specs.Seen.{HasView}
use Rattle.ttx_certify.specs.Laws.{RunsAreSeen}
use Rattle.ttx_subpages.specs.WholeBlocks.{IsWholeBefore}

abbrev empty_slot : List ℕ
empty_slot = replicate 42 0

zeros : (n x : ℕ) → get_or (replicate n 0) x 0 < 256
zeros zero x = lit< tt
zeros (suc n) zero = lit< tt
zeros (suc n) (suc x) = zeros n x

empty_is_slot : IsSlot empty_slot
empty_is_slot = record { size = refl; bytes = λ x. zeros 42 x }

is_empty_empty : is_empty empty_slot ≡ true
is_empty_empty = refl

empty_clean : is_clean empty_slot ≡ true
unfolding is_clean
empty_clean = refl

empty_packet : packet_of empty_slot ≡ Empty
empty_packet = packet_empty empty_slot is_empty_empty

-- streams that are the same from slot low on and below slot high
module _ (a b : Stream) (low high : ℤ) (same : (j : ℤ) → low ≤ℤ j → j <ℤ high → a j ≡ b j) where
  latest_same : (mag : ℕ) (h j : ℤ) → low ≤ℤ h → j <ℤ high → IsLatestHeader a mag h j → IsLatestHeader b mag h j
  latest_same mag h j le lt l =
      let e = l.earlier in
      record {
        earlier = l.earlier;
        is_header = subst (λ x. heads mag (packet_of x) ≡ true) (same h le (omega (arith, ints))) l.is_header;
        none_between = λ i after before.
            subst (λ x. heads mag (packet_of x) ≡ false) (same i (omega (arith, ints)) (omega (arith, ints))) (l.none_between i after before);
      }

  owned_same : (page : Id) (item : Item) (h j : ℤ) → low ≤ℤ h → j <ℤ high → IsOwned a page item h j → IsOwned b page item h j
  owned_same page TheHead h j le lt o =
      let e = o.0 in (o.0, subst (λ x. heads_page page (packet_of x) ≡ true) (same j (omega (arith, ints)) lt) o.1)
  owned_same page (TheRow r) h j le lt o =
      let e = o.0.earlier in (
        latest_same page.mag h j le lt o.0,
        subst (λ x. heads_page page (packet_of x) ≡ true) (same h le (omega (arith, ints))) o.1,
        subst (λ x. carries page.mag (TheRow r) (packet_of x) ≡ true) (same j (omega (arith, ints)) lt) o.2,
      )
  owned_same page TheLinks h j le lt o =
      let e = o.0.earlier in (
        latest_same page.mag h j le lt o.0,
        subst (λ x. heads_page page (packet_of x) ≡ true) (same h le (omega (arith, ints))) o.1,
        subst (λ x. carries page.mag TheLinks (packet_of x) ≡ true) (same j (omega (arith, ints)) lt) o.2,
      )

  sure_same : (lines mag : ℕ) (item : Item) (h j : ℤ) → low ≤ℤ h → j <ℤ high → IsSure a lines mag item h j → IsSure b lines mag item h j
  sure_same lines mag TheHead h j le lt u = tt
  sure_same lines mag (TheRow r) h j le lt u = (
    u.0,
    λ i after before. subst (λ x. ends_serial mag (packet_of x) ≡ false) (same i (omega (arith, ints)) (omega (arith, ints))) (u.1 i after before),
  )
  sure_same lines mag TheLinks h j le lt u = (
    u.0,
    λ i after before. subst (λ x. ends_serial mag (packet_of x) ≡ false) (same i (omega (arith, ints)) (omega (arith, ints))) (u.1 i after before),
  )

-- an owned slot is not empty
owned_packet : (s : Stream) (page : Id) (item : Item) (h j : ℤ) → IsOwned s page item h j → packet_of (s j) ≡ Empty → ⊥
owned_packet s page TheHead h j o e = both_ways _ refl (subst (λ k. heads_page page k ≡ true) e o.1)
owned_packet s page (TheRow r) h j o e = both_ways _ refl (subst (λ k. carries page.mag (TheRow r) k ≡ true) e o.2)
owned_packet s page TheLinks h j o e = both_ways _ refl (subst (λ k. carries page.mag TheLinks k ≡ true) e o.2)

length_one : (repeat : ℕ) (item : Item) → repeat ≡ 1 → 1 ≡ run_length repeat item
length_one repeat TheHead e = sym e
length_one repeat (TheRow r) e = sym e
length_one repeat TheLinks e = refl

module _ (s : Stream) (low high : ℤ) where
  chosen : (j : ℤ) → ((j <ℤ low) ⊎ (low ≤ℤ j)) → ((j <ℤ high) ⊎ (high ≤ℤ j)) → List ℕ
  chosen j (inl a) b = empty_slot
  chosen j (inr a) (inl b) = s j
  chosen j (inr a) (inr b) = empty_slot

  -- the slots from low on and below high; the others are empty
  part : Stream
  part j = chosen j (cases_ltz j low) (cases_ltz j high)

  chosen_inside : (j : ℤ) (a : (j <ℤ low) ⊎ (low ≤ℤ j)) (b : (j <ℤ high) ⊎ (high ≤ℤ j)) → low ≤ℤ j → j <ℤ high → chosen j a b ≡ s j
  unfolding chosen
  chosen_inside j (inl a) b le lt = absurd (omega (arith, ints))
  chosen_inside j (inr a) (inl b) le lt = refl
  chosen_inside j (inr a) (inr b) le lt = absurd (omega (arith, ints))

  chosen_outside : (j : ℤ) (a : (j <ℤ low) ⊎ (low ≤ℤ j)) (b : (j <ℤ high) ⊎ (high ≤ℤ j)) → ((j <ℤ low) ⊎ (high ≤ℤ j)) → chosen j a b ≡ empty_slot
  unfolding chosen
  chosen_outside j (inl a) b out = refl
  chosen_outside j (inr a) (inl b) out = elim out as (λ _. s j ≡ empty_slot) [ inl l ↦ absurd (omega (arith, ints)) | inr h ↦ absurd (omega (arith, ints)) ]
  chosen_outside j (inr a) (inr b) out = refl

  part_inside : (j : ℤ) → low ≤ℤ j → j <ℤ high → part j ≡ s j
  unfolding part
  part_inside j le lt = chosen_inside j (cases_ltz j low) (cases_ltz j high) le lt

  part_outside : (j : ℤ) → ((j <ℤ low) ⊎ (high ≤ℤ j)) → part j ≡ empty_slot
  unfolding part
  part_outside j out = chosen_outside j (cases_ltz j low) (cases_ltz j high) out

  -- a slot of the part is one of the stream's, or an empty one
  part_is : (P : List ℕ → Type 0) (j : ℤ) → P (s j) → P empty_slot → P (part j)
  part_is P j here none = elim (cases_ltz j low) as (λ _. P (part j)) [
    | inl lt ↦ subst P (sym (part_outside j (inl lt))) none
    | inr le ↦ elim (cases_ltz j high) as (λ _. P (part j)) [
      | inl lt ↦ subst P (sym (part_inside j le lt)) here
      | inr ge ↦ subst P (sym (part_outside j (inr ge))) none
    ]
  ]

  -- what is not empty is inside
  is_inside : (j : ℤ) → (packet_of (part j) ≡ Empty → ⊥) → (low ≤ℤ j) × (j <ℤ high)
  is_inside j some = elim (cases_ltz j low) as (λ _. (low ≤ℤ j) × (j <ℤ high)) [
    | inl lt ↦ absurd (some (ap packet_of (part_outside j (inl lt)) ∙ empty_packet))
    | inr le ↦ elim (cases_ltz j high) as (λ _. (low ≤ℤ j) × (j <ℤ high)) [
      | inl lt ↦ (le, lt)
      | inr ge ↦ absurd (some (ap packet_of (part_outside j (inr ge)) ∙ empty_packet))
    ]
  ]

  head_inside : (page : Id) (h : ℤ) → heads_page page (packet_of (part h)) ≡ true → (low ≤ℤ h) × (h <ℤ high)
  head_inside page h head = is_inside h (λ e. both_ways _ refl (subst (λ k. heads_page page k ≡ true) e head))

  -- what is owned in the part is owned in the stream
  owned_there : (page : Id) (item : Item) (h j : ℤ) → IsOwned part page item h j → (low ≤ℤ h) × (j <ℤ high) × IsOwned s page item h j
  owned_there page item h j o =
      let le = (head_inside page h (owner_heads part page item h j o).1).0 in
      let lt = (is_inside j (owned_packet part page item h j o)).1 in
      (le, lt, owned_same part s low high part_inside page item h j le lt o)

  -- and the other way round
  owned_here : (page : Id) (item : Item) (h j : ℤ) → low ≤ℤ h → j <ℤ high → IsOwned s page item h j → IsOwned part page item h j
  owned_here page item h j le lt o = owned_same s part low high (λ i a b. sym (part_inside i a b)) page item h j le lt o

  sure_here : (lines mag : ℕ) (item : Item) (h j : ℤ) → low ≤ℤ h → j <ℤ high → IsSure s lines mag item h j → IsSure part lines mag item h j
  sure_here lines mag item h j le lt u = sure_same s part low high (λ i a b. sym (part_inside i a b)) lines mag item h j le lt u

module _ (s : Stream) (h : ℤ) (page : Id) (received : List (List ℕ)) (permitted : Received s page 1 h received) where
  abbrev now : ℤ
  now = h +ℤ pos (length received)

  right_here : (x : ℕ) (j : ℤ) → h ≤ℤ j → j <ℤ now → IsRight s h received x j → IsRight (part s h now) h received x j
  right_here x j le lt r = record {
    index = r.index;
    place = r.place;
    right = r.right ∙ ap (λ slot. slice_index slot x) (sym (part_inside s h now j le lt));
  }

  one_here : (item : Item) (x : ℕ) → IsTextByte item x → (slots : List ℤ) → length slots ≡ 1 → AreSuccessive (part s h now) page item slots →
      AllByRecursion (λ j. (h ≤ℤ j) × (j <ℤ now)) slots → OneIs (IsRight (part s h now) h received x) slots
  one_here item x text [] count a all = absurd (omega arith)
  one_here item x text (j ∷ []) count a all =
      let o = owned_there s h now page item a.owner j a.owned in
      elim (permitted.one_right item x text (j ∷ []) refl (record { owner = a.owner; owned = o.2 }) all) as
      (λ _. OneIs (IsRight (part s h now) h received x) (j ∷ [])) [
        | inl r ↦ inl (right_here x j all.0.0 all.0.1 r)
        | inr none ↦ absurd none
      ]
  one_here item x text (i ∷ j ∷ slots) count a all = absurd (omega arith)

  received_here : Received (part s h now) page 1 h received
  received_here = record {
    each = λ n lt. subst (λ slot. MayBeReceivedAs slot (get_or received n []))
        (sym (part_inside s h now (h +ℤ pos n) (omega (arith, ints)) (omega (arith, ints)))) (permitted.each n lt);
    one_right = one_here;
  }

-- What a receiver holds after the whole block of a page: the page's View, whatever it held before.
pub block_has_view : RunsAreSeen → (s : Stream) (p : Page) (sel : Selection) (lines : ℕ) (h : ℤ) → IsPage p → lines ≤ 32 →
    matches sel p.id ≡ true → ((j : ℤ) → IsSlot (s j)) → ((j : ℤ) → is_clean (s j) ≡ true) →
    ((item : Item) → IsChecked p item → (j : ℤ) → IsOwned s p.id item h j → IsTrueTo p item (s j)) →
    heads_page p.id (packet_of (s h)) ≡ true → (received : List (List ℕ)) →
    ((j : ℤ) → h <ℤ j → j <ℤ (h +ℤ pos (length received)) → heads_matched sel (packet_of (s j)) ≡ false) →
    IsWholeBefore s p lines h (h +ℤ pos (length received)) → Received s p.id 1 h received →
    (former m : Memory) → IsMemory former → Run Any lines sel former received m → HasView p m
block_has_view runs s p sel lines h page few fits slots clean items head received none whole permitted former m is run =
    runs t p sel Any lines 1 h now page few fits steady brought former m received is (received_here s h p.id received permitted) run
    (omega (arith, ints))
  where
    now : ℤ
    now = h +ℤ pos (length received)

    t : Stream
    t = part s h now

    steady : IsSteadyFrom t p sel h
    steady = record {
      slots = λ j le. part_is s h now IsSlot j (slots j) empty_is_slot;
      clean = λ j le. part_is s h now (λ x. is_clean x ≡ true) j (clean j) empty_clean;
      selected = λ j le matched.
          let range = is_inside s h now j (λ e. both_ways _ refl (subst (λ k. heads_matched sel k ≡ true) e matched)) in
          let same = part_inside s h now j range.0 range.1 in
          elim (cases_ltz h j) as (λ _. heads_page p.id (packet_of (t j)) ≡ true) [
            | inl lt ↦ absurd (both_ways _ (none j lt range.1) (subst (λ x. heads_matched sel (packet_of x) ≡ true) same matched))
            | inr ge ↦
                let e : h ≡ j = omega (arith, ints) in
                subst (λ x. heads_page p.id (packet_of x) ≡ true) (sym same)
                (subst (λ z. heads_page p.id (packet_of (s z)) ≡ true) e head)
          ];
      items = λ item checked k j le owned.
          let o = owned_there s h now p.id item k j owned in
          let first = owner_heads s p.id item k j o.2 in
          let after = first.0 in
          let same : k ≡ h = elim (cases_ltz h k) as (λ _. k ≡ h) [
            | inr ge ↦ omega (arith, ints)
            | inl lt ↦ absurd (both_ways _ (none k lt (let below = o.1 in omega (arith, ints))) (page_matched sel p.id fits (packet_of (s k)) first.1))
          ] in
          subst (IsTrueTo p item) (sym (part_inside s h now j (omega (arith, ints)) o.1))
          (items item checked j (subst (λ z. IsOwned s p.id item z j) same o.2));
    }

    brought : (item : Item) → needed p item ≡ true → IsBrought t p Any lines 1 item h now
    brought item need =
        let w = whole item need in
        let c = w.0 in
        let self : h ≤ℤ h = omega (arith, ints) in
        let o = owned_here s h now p.id item h c.slot self w.1 c.owned in
        inl (record {
          first = c.slot;
          rest = [];
          owner = h;
          owned = o;
          not_before = self;
          run = record { count = length_one 1 item refl; successive = record { owner = h; owned = o } };
          all_sure = (record { owner = h; owned = o; sure = sure_here s h now lines p.id.mag item h c.slot self w.1 c.sure }, tt);
          ends = (w.1, tt);
        })
