-- The reception of an item that never comes by a sure run is within the error rule.
use Rattle.std.proofs.Common.{◌≡◌, ◌⊎◌, ℕ, ◌<◌, ◌≤◌, ℤ, pos, ◌+ℤ◌, ◌<ℤ◌, ◌≤ℤ◌, true, false, List, [], ◌∷◌, length, get_or, refl, sym, ap, ◌∙◌, subst}
use Rattle.std.proofs.Common.{inl, inr, arith, eqb-true}
use Rattle.std.specs.List.{AllByRecursion}
use Rattle.std.proofs.lemmas.Bool.{and_parts, cond_both, both_ways}
use Rattle.ttx_header.specs.Ids.{Id}
use Rattle.ttx_packet.specs.Receptions.{MayBeReceivedAs}
use Rattle.ttx_page.specs.Packets.{Packet, Header, Row, Links, packet_of}
use Rattle.ttx_page.specs.Pages.{Page, selected_mag, matches}
use Rattle.ttx_page.specs.declared.selection.Selection.{Selection}
use Rattle.ttx_page.specs.declared.item.Item.{Item}
use Rattle.ttx_page.specs.declared.item.Item.TheVariants.{Head as TheHead, Row as TheRow, Links as TheLinks}
use Rattle.ttx_page.specs.Memories.{Memory}
use Rattle.ttx_page.specs.Receivers.{older}
use Rattle.ttx_page.specs.Streams.{Stream, heads_page, heads_matched, carries, IsOwned, IsTransmission, IsSureTransmission, AreSuccessive, run_length}
use Rattle.ttx_page.specs.Streams.{IsSent}
use Rattle.ttx_page.specs.Receptions.{IsTextByte, IsRight, OneIs, Received}
use Rattle.ttx_receiver.specs.Laws.{IsSteadyFrom}
use Rattle.ttx_receiver.specs.Starving.{spoilt, takes, heard, starved_memory, starved_slots}
use Rattle.ttx_receiver.proofs.ReceivedPackets.{LawsBelow}
use Rattle.ttx_receiver.proofs.SlotDistances.{offset, offset_lt}
use Rattle.ttx_receiver.proofs.StarvedUnder.{IsTaken, length_slots, slot_at, may, taken_at}

-- a slot carries one item
matched_no_row : (sel : Selection) (mag r : ℕ) (pkt : Packet) → heads_matched sel pkt ≡ true → carries mag (TheRow r) pkt ≡ false
matched_no_row sel mag r (Header id control text) h = refl
matched_no_row sel mag r (Row m n t) h = absurd (both_ways false refl h)
matched_no_row sel mag r (Links m c) h = refl
matched_no_row sel mag r _ h = refl

row_no_header : (id : Id) (mag r : ℕ) (pkt : Packet) → carries mag (TheRow r) pkt ≡ true → heads_page id pkt ≡ false
row_no_header id mag r (Header i control text) h = absurd (both_ways false refl h)
row_no_header id mag r (Row m n t) h = refl
row_no_header id mag r (Links m c) h = refl
row_no_header id mag r _ h = refl

one_row : (mag mag' r r' : ℕ) (pkt : Packet) → carries mag (TheRow r) pkt ≡ true → carries mag' (TheRow r') pkt ≡ true → r' ≡ r
one_row mag mag' r r' (Row m n t) h k = sym (eqb-true n r' ((and_parts _ _ k).1)) ∙ eqb-true n r ((and_parts _ _ h).1)
one_row mag mag' r r' (Header i control text) h k = absurd (both_ways false refl h)
one_row mag mag' r r' (Links m c) h k = absurd (both_ways false refl h)
one_row mag mag' r r' _ h k = absurd (both_ways false refl h)

all_sent : (s : Stream) (id : Id) (item : Item) (xs : List ℤ) → AreSuccessive s id item xs → AllByRecursion (IsTransmission s id item) xs
all_sent s id item [] a = tt
all_sent s id item (x ∷ []) a = (a, tt)
all_sent s id item (x ∷ y ∷ xs) a = (a.0, all_sent s id item (y ∷ xs) a.3)

all_sure : (s : Stream) (p : Page) (lines : ℕ) (item : Item) (tau : ℤ) (xs : List ℤ) → AllByRecursion (IsTaken s p lines item tau) xs →
    AllByRecursion (IsSureTransmission s p.id lines item) xs
all_sure s p lines item tau [] a = tt
all_sure s p lines item tau (x ∷ xs) a = (record { owner = a.0.owner; owned = a.0.owned; sure = a.0.sure }, all_sure s p lines item tau xs a.1)

all_end : (tau end : ℤ) (xs : List ℤ) → AllByRecursion (λ j. (tau ≤ℤ j) × (j <ℤ end)) xs → AllByRecursion (λ j. j <ℤ end) xs
all_end tau end [] a = tt
all_end tau end (x ∷ xs) a = (a.0.1, all_end tau end xs a.1)

-- one element of the list has one property, or each has the other
one_or_all : (P Q R : ℤ → Type 0) → ((j : ℤ) → R j → P j ⊎ Q j) → (xs : List ℤ) → AllByRecursion R xs → OneIs P xs ⊎ AllByRecursion Q xs
one_or_all P Q R each [] a = inr tt
one_or_all P Q R each (x ∷ xs) a = elim (each x a.0) as (λ _. OneIs P (x ∷ xs) ⊎ AllByRecursion Q (x ∷ xs)) [
  | inl h ↦ inl (inl h)
  | inr q ↦ elim (one_or_all P Q R each xs a.1) as
      (λ _. OneIs P (x ∷ xs) ⊎ AllByRecursion Q (x ∷ xs)) [ inl o ↦ inl (inr o) | inr all ↦ inr (q, all) ]
]

all_both : (P Q : ℤ → Type 0) (xs : List ℤ) → AllByRecursion P xs → AllByRecursion Q xs → AllByRecursion (λ j. P j × Q j) xs
all_both P Q [] a b = tt
all_both P Q (x ∷ xs) a b = ((a.0, b.0), all_both P Q xs a.1 b.1)

run_of_text : (repeat : ℕ) (item : Item) (x : ℕ) → IsTextByte item x → repeat ≡ run_length repeat item
run_of_text repeat TheHead x t = refl
run_of_text repeat (TheRow r) x t = refl
run_of_text repeat TheLinks x t = absurd t

module _ (laws : LawsBelow) (s : Stream) (p : Page) (sel : Selection) (fits : matches sel p.id ≡ true) (lines : ℕ) (few : lines ≤ 32)
    (item : Item) (tau : ℤ)
    (steady : IsSteadyFrom s p sel tau) (former : Memory) (idle : former.storing ≡ false) where
  abbrev sent : ℕ → List ℕ
  sent t = s (tau +ℤ pos t)

  abbrev mem : ℕ → Memory
  mem t = starved_memory lines sel item s tau former t

  -- the item that is taken is the item that is sent; links have no text bytes
  byte_item : (other : Item) (x t : ℕ) → IsTextByte other x → IsTransmission s p.id other (tau +ℤ pos t) →
      (get_or (heard lines sel item (mem t) (sent t)) x 0 ≡ get_or (sent t) x 0)
      ⊎ ((other ≡ item) × (takes lines sel item (older (mem t)) (packet_of (sent t)) ≡ true))
  byte_item other x t text o = go item (mem t) other text o.owner o.owned
    where
      go : (i : Item) (m : Memory) (other : Item) → IsTextByte other x → (h : ℤ) → IsOwned s p.id other h (tau +ℤ pos t) →
          (get_or (heard lines sel i m (sent t)) x 0 ≡ get_or (sent t) x 0)
          ⊎ ((other ≡ i) × (takes lines sel i (older m) (packet_of (sent t)) ≡ true))
      go TheHead m TheHead text h owned = cond_both (takes lines sel TheHead (older m) (packet_of (sent t))) (spoilt (sent t) 10)
          (sent t) (λ y. (get_or y x 0 ≡ get_or (sent t) x 0)
          ⊎ ((TheHead ≡ TheHead) × (takes lines sel TheHead (older m) (packet_of (sent t)) ≡ true))) (λ e. inr (refl, e))
          (λ _. inl refl)
      go TheHead m (TheRow r) text h owned = cond_both (takes lines sel TheHead (older m) (packet_of (sent t))) (spoilt (sent t) 10)
          (sent t) (λ y. (get_or y x 0 ≡ get_or (sent t) x 0)
          ⊎ ((TheRow r ≡ TheHead) × (takes lines sel TheHead (older m) (packet_of (sent t)) ≡ true)))
          (λ e. absurd (both_ways _ (matched_no_row sel p.id.mag r (packet_of (sent t)) e) owned.2)) (λ _. inl refl)
      go (TheRow r) m TheHead text h owned = cond_both (takes lines sel (TheRow r) (older m) (packet_of (sent t))) (spoilt (sent t) 2)
          (sent t) (λ y. (get_or y x 0 ≡ get_or (sent t) x 0)
          ⊎ ((TheHead ≡ TheRow r) × (takes lines sel (TheRow r) (older m) (packet_of (sent t)) ≡ true)))
          (λ e. absurd (both_ways _ (row_no_header p.id (selected_mag sel) r (packet_of (sent t)) ((and_parts _ _ e).0)) owned.1)) (λ _. inl refl)
      go (TheRow r) m (TheRow r') text h owned =
          cond_both (takes lines sel (TheRow r) (older m) (packet_of (sent t))) (spoilt (sent t) 2) (sent t)
          (λ y. (get_or y x 0 ≡ get_or (sent t) x 0)
          ⊎ ((TheRow r' ≡ TheRow r) × (takes lines sel (TheRow r) (older m) (packet_of (sent t)) ≡ true)))
          (λ e. inr (ap TheRow (one_row (selected_mag sel) p.id.mag r r' (packet_of (sent t)) ((and_parts _ _ e).0) owned.2), e)) (λ _. inl refl)
      go TheHead m TheLinks text h owned = absurd text
      go (TheRow r) m TheLinks text h owned = absurd text
      go TheLinks m other text h owned = inl refl

  pub permitted : (repeat n : ℕ) → 1 ≤ repeat → (IsSent s p.id lines repeat item tau (tau +ℤ pos n) → ⊥) →
      Received s p.id repeat tau (starved_slots lines sel item s tau former n)
  permitted repeat n some starving = record {
    each = λ k lt. subst (MayBeReceivedAs (sent k)) (sym (at k (inside k lt))) (may laws s p sel fits lines few item tau steady former idle k);
    one_right = λ other x text slots len succ within.
        one_right other x text slots len succ (subst (λ l. AllByRecursion (λ j. (tau ≤ℤ j) × (j <ℤ (tau +ℤ pos l))) slots) long within);
  }
    where
      got : List (List ℕ)
      got = starved_slots lines sel item s tau former n

      long : length got ≡ n
      long = length_slots lines sel item s tau former n

      inside : (k : ℕ) → k < length got → k < n
      inside k lt = omega (arith, long)

      at : (k : ℕ) → k < n → get_or got k [] ≡ heard lines sel item (mem k) (sent k)
      at k lt = slot_at lines sel item s tau former n k lt

      right_or_taken : (other : Item) (x : ℕ) → IsTextByte other x → (j : ℤ) → IsTransmission s p.id other j × ((tau ≤ℤ j) × (j <ℤ (tau +ℤ pos n))) →
          IsRight s tau got x j ⊎ ((other ≡ item) × IsTaken s p lines item tau j)
      right_or_taken other x text j w =
          let o = offset tau j w.1.0 in
          let k = o.0 in
          let lt : k < n = offset_lt tau k n (subst (λ z. z <ℤ (tau +ℤ pos n)) o.1 w.1.1) in
          elim (byte_item other x k text (subst (IsTransmission s p.id other) o.1 w.0)) as
          (λ _. IsRight s tau got x j ⊎ ((other ≡ item) × IsTaken s p lines item tau j)) [
            | inl e ↦ inl (record { index = k; place = o.1; right = ap (λ z. get_or z x 0) (at k lt) ∙ e ∙ ap (λ z. get_or (s z) x 0) (sym o.1) })
            | inr e ↦ inr (e.0, subst (IsTaken s p lines item tau) (sym o.1) (taken_at laws s p sel fits lines few item tau steady former idle k e.1))
          ]

      firsts : (other : Item) (xs : List ℤ) → AllByRecursion (λ j. (other ≡ item) × IsTaken s p lines item tau j) xs →
          AllByRecursion (IsTaken s p lines item tau) xs
      firsts other [] a = tt
      firsts other (x ∷ xs) a = (a.0.1, firsts other xs a.1)

      one_right : (other : Item) (x : ℕ) → IsTextByte other x → (slots : List ℤ) → length slots ≡ repeat → AreSuccessive s p.id other slots →
          AllByRecursion (λ j. (tau ≤ℤ j) × (j <ℤ (tau +ℤ pos n))) slots → OneIs (IsRight s tau got x) slots
      one_right other x text [] len succ within = absurd (omega arith)
      one_right other x text (first ∷ rest) len succ within =
          elim (one_or_all (IsRight s tau got x) (λ j. (other ≡ item) × IsTaken s p lines item tau j)
          (λ j. IsTransmission s p.id other j × ((tau ≤ℤ j) × (j <ℤ (tau +ℤ pos n))))
          (right_or_taken other x text) (first ∷ rest)
          (all_both (IsTransmission s p.id other) (λ j. (tau ≤ℤ j) × (j <ℤ (tau +ℤ pos n))) (first ∷ rest)
          (all_sent s p.id other (first ∷ rest) succ) within))
          as (λ _. OneIs (IsRight s tau got x) (first ∷ rest)) [
            | inl o ↦ o
            | inr all ↦
                let taken = firsts other (first ∷ rest) all in
                absurd (starving (record {
                  first = first;
                  rest = rest;
                  owner = taken.0.owner;
                  owned = taken.0.owned;
                  not_before = taken.0.not_before;
                  run = record {
                    count = len ∙ subst (λ i. repeat ≡ run_length repeat i) all.0.0 (run_of_text repeat other x text);
                    successive = subst (λ i. AreSuccessive s p.id i (first ∷ rest)) all.0.0 succ;
                  };
                  all_sure = all_sure s p lines item tau (first ∷ rest) taken;
                  ends = all_end tau (tau +ℤ pos n) (first ∷ rest) within;
                }))
          ]
