-- A receiver that takes every choice stores only under the page's headers, and what it then takes is sure.
use Rattle.std.proofs.Common.{◌≡◌, ℕ, zero, suc, ◌+◌, ◌-◌, ◌<◌, ◌≤◌, min, ℤ, pos, ◌+ℤ◌, ◌<ℤ◌, ◌≤ℤ◌, Bool, true, false, ◌&&◌, List, [], ◌∷◌, ◌++◌}
use Rattle.std.proofs.Common.{length, get_or, refl, sym, ap, ◌∙◌, subst, inl, inr, arith, nat_le, length-append}
use Rattle.std.proofs.lemmas.Int.{ints}
use Rattle.std.proofs.lemmas.Bool.{cases_lt, leb-false, not-true, and_parts, cond_both, both_ways}
use Rattle.std.proofs.lemmas.List.{get_or_append_left, get_or-append-add}
use Rattle.ttx_packet.specs.Slots.{IsSlot}
use Rattle.ttx_packet.specs.Receptions.{MayBeReceivedAs}
use Rattle.ttx_page.specs.Packets.{Packet, Empty, packet_of}
use Rattle.ttx_page.specs.Pages.{Page, selected_mag, matches}
use Rattle.ttx_page.specs.declared.selection.Selection.{Selection}
use Rattle.ttx_page.specs.declared.item.Item.{Item}
use Rattle.ttx_page.specs.declared.item.Item.TheVariants.{Head as TheHead, Row as TheRow, Links as TheLinks}
use Rattle.ttx_page.specs.declared.class.Class.TheVariants.{Any}
use Rattle.ttx_page.specs.Memories.{Memory}
use Rattle.ttx_page.specs.Receivers.{older, after}
use Rattle.ttx_page.specs.Streams.{Stream, heads, heads_page, heads_matched, ends_serial, carries, IsLatestHeader, IsOwned, IsSure, CannotBeMissed}
use Rattle.ttx_page.proofs.Owners.{page_heads}
use Rattle.ttx_receiver.specs.Laws.{IsSteadyFrom}
use Rattle.ttx_receiver.specs.Starving.{spoilt, is_bound, takes, heard, starved_memory, starved_slots}
use Rattle.ttx_receiver.proofs.ReceivedPackets.{LawsBelow, same_heads, same_matched, same_ends}
use Rattle.ttx_receiver.proofs.ReceivedPage.{same_mag}
use Rattle.ttx_receiver.proofs.SlotDistances.{offset, not_before, offset_lt, lt_offset}
use Rattle.ttx_receiver.proofs.StarvedBytes.{spoilt_received, received_as_sent}
use Rattle.ttx_receiver.proofs.StarvedSteps.{stores_since}

lt_is_le : (a b : ℤ) → a <ℤ b → a ≤ℤ b
lt_is_le a b h = omega (arith, ints)

le_lt : (a b c : ℤ) → a ≤ℤ b → b <ℤ c → a ≤ℤ c
le_lt a b c h k = omega (arith, ints)

far : (tau : ℤ) (h lines t : ℕ) → h + lines < t → ((tau +ℤ pos h) +ℤ pos lines) <ℤ (tau +ℤ pos t)
far tau h lines t k = omega (arith, ints)

-- the memory and the list, one slot on
pub memory_begins : (lines : ℕ) (sel : Selection) (item : Item) (s : Stream) (tau : ℤ) (former : Memory) →
    starved_memory lines sel item s tau former 0 ≡ former
unfolding starved_memory
memory_begins lines sel item s tau former = refl

pub memory_next : (lines : ℕ) (sel : Selection) (item : Item) (s : Stream) (tau : ℤ) (former : Memory) (t : ℕ) → let m =
    starved_memory lines sel item s tau former t in
    starved_memory lines sel item s tau former (suc t) ≡ after Any lines sel true (older m) (packet_of (heard lines sel item m (s (tau +ℤ pos t))))
unfolding starved_memory
memory_next lines sel item s tau former t = refl

pub length_slots : (lines : ℕ) (sel : Selection) (item : Item) (s : Stream) (tau : ℤ) (former : Memory) (n : ℕ) →
    length (starved_slots lines sel item s tau former n) ≡ n
unfolding starved_slots
length_slots lines sel item s tau former zero = refl
length_slots lines sel item s tau former (suc n) =
    length-append (starved_slots lines sel item s tau former n) _ ∙ omega (arith, length_slots lines sel item s tau former n)

pub slot_at : (lines : ℕ) (sel : Selection) (item : Item) (s : Stream) (tau : ℤ) (former : Memory) (n t : ℕ) → t < n →
    get_or (starved_slots lines sel item s tau former n) t [] ≡ heard lines sel item (starved_memory lines sel item s tau former t) (s (tau +ℤ pos t))
unfolding starved_slots
slot_at lines sel item s tau former zero t lt = absurd (omega arith)
slot_at lines sel item s tau former (suc n) t lt =
    let now = heard lines sel item (starved_memory lines sel item s tau former n) (s (tau +ℤ pos n)) in
    let before = starved_slots lines sel item s tau former n in
    let long : length before ≡ n = length_slots lines sel item s tau former n in
    elim (cases_lt t n) as (λ _. get_or (before ++ now ∷ []) t []
    ≡ heard lines sel item (starved_memory lines sel item s tau former t) (s (tau +ℤ pos t))) [
      | inl less ↦ get_or_append_left before (now ∷ []) [] t (omega arith) ∙ slot_at lines sel item s tau former n t less
      | inr ge ↦
          let e : n ≡ t = omega arith in
          let e' : length before + 0 ≡ t = omega arith in
          subst (λ x. get_or (before ++ now ∷ []) x [] ≡ now) e' (get_or-append-add before (now ∷ []) 0 [])
          ∙ ap (λ x. heard lines sel item (starved_memory lines sel item s tau former x) (s (tau +ℤ pos x))) e
    ]

pub takes_something : (lines : ℕ) (sel : Selection) (item : Item) (m : Memory) (pkt : Packet) → takes lines sel item m pkt ≡ true → pkt ≡ Empty → ⊥
takes_something lines sel TheHead m pkt h e = both_ways _ refl (subst (λ x. heads_matched sel x ≡ true) e h)
takes_something lines sel (TheRow r) m pkt h e =
    both_ways _ refl (subst (λ x. (carries (selected_mag sel) (TheRow r) x && is_bound lines m) ≡ true) e h)
takes_something lines sel TheLinks m pkt h e = both_ways _ refl (subst (λ x. (carries (selected_mag sel) TheLinks x && is_bound lines m) ≡ true) e h)

-- what is heard may be received
pub heard_received : (lines : ℕ) (sel : Selection) (item : Item) (m : Memory) (slot : List ℕ) → IsSlot slot →
    MayBeReceivedAs slot (heard lines sel item m slot)
heard_received lines sel TheHead m slot s =
    cond_both (takes lines sel TheHead (older m) (packet_of slot)) (spoilt slot 10) slot (MayBeReceivedAs slot)
    (λ e. spoilt_received slot s 10 (omega arith) (takes_something lines sel TheHead (older m) (packet_of slot) e)) (λ _. received_as_sent slot s)
heard_received lines sel (TheRow r) m slot s =
    cond_both (takes lines sel (TheRow r) (older m) (packet_of slot)) (spoilt slot 2) slot (MayBeReceivedAs slot)
    (λ e. spoilt_received slot s 2 (omega arith) (takes_something lines sel (TheRow r) (older m) (packet_of slot) e)) (λ _. received_as_sent slot s)
heard_received lines sel TheLinks m slot s = received_as_sent slot s

-- slot j is a sure transmission under a header at slot tau or later
pub record IsTaken (s : Stream) (p : Page) (lines : ℕ) (item : Item) (tau j : ℤ) : Type 0 where
  pub owner : ℤ
  pub owned : IsOwned s p.id item owner j
  pub not_before : tau ≤ℤ owner
  pub sure : IsSure s lines p.id.mag item owner j

module _ (laws : LawsBelow) (s : Stream) (p : Page) (sel : Selection) (fits : matches sel p.id ≡ true) (lines : ℕ) (few : lines ≤ 32)
    (item : Item) (tau : ℤ)
    (steady : IsSteadyFrom s p sel tau) (former : Memory) (idle : former.storing ≡ false) where
  abbrev place : ℕ → ℤ
  place t = tau +ℤ pos t

  abbrev sent : ℕ → List ℕ
  sent t = s (place t)

  abbrev mem : ℕ → Memory
  mem t = starved_memory lines sel item s tau former t

  abbrev hears : ℕ → List ℕ
  hears t = heard lines sel item (mem t) (sent t)

  pub may : (t : ℕ) → MayBeReceivedAs (sent t) (hears t)
  may t = heard_received lines sel item (mem t) (sent t) (steady.slots _ (not_before tau t))

  -- under a header of the page at slot tau or later, which nothing has ended
  record IsUnder (t : ℕ) (m : Memory) : Type 0 where
    header : ℕ
    before : header < t
    mine : heads_page p.id (packet_of (sent header)) ≡ true
    no_header : (i : ℕ) → header < i → i < t → heads p.id.mag (packet_of (sent i)) ≡ false
    no_end : (i : ℕ) → header < i → i < t → ends_serial p.id.mag (packet_of (sent i)) ≡ false
    age : m.age ≡ min (t - suc header) 64

  heads_sent : (t : ℕ) → heads (selected_mag sel) (packet_of (hears t)) ≡ false → heads p.id.mag (packet_of (sent t)) ≡ false
  heads_sent t h =
      sym (same_heads laws (sent t) (hears t) (steady.slots _ (not_before tau t)) (steady.clean _ (not_before tau t)) (may t) p.id.mag)
      ∙ ap (λ m. heads m (packet_of (hears t))) (same_mag sel p.id fits) ∙ h

  ends_sent : (t : ℕ) → ends_serial (selected_mag sel) (packet_of (hears t)) ≡ false → ends_serial p.id.mag (packet_of (sent t)) ≡ false
  ends_sent t h =
      sym (same_ends laws (sent t) (hears t) (steady.slots _ (not_before tau t)) (steady.clean _ (not_before tau t)) (may t) p.id.mag)
      ∙ ap (λ m. ends_serial m (packet_of (hears t))) (same_mag sel p.id fits) ∙ h

  -- what holds at all positions up to t, and at position t
  up_to : (P : ℕ → Type 0) (h t : ℕ) → ((i : ℕ) → h < i → i < t → P i) → P t → (i : ℕ) → h < i → i < suc t → P i
  up_to P h t below here i low high = elim (cases_lt i t) as (λ _. P i)
      [ inl lt ↦ below i low lt | inr ge ↦ let e : t ≡ i = omega arith in subst P e here ]

  under : (t : ℕ) → (mem t).storing ≡ true → IsUnder t (mem t)
  under zero st = absurd (both_ways _ (ap (λ m. m.storing) (memory_begins lines sel item s tau former) ∙ idle) st)
  under (suc t) st = subst (IsUnder (suc t)) (sym next)
      (elim (stores_since lines sel (older (mem t)) (packet_of (hears t)) st') as (λ _. IsUnder (suc t) new) [
        | inl here ↦ record {
          header = t;
          before = omega arith;
          mine = steady.selected _ (not_before tau t)
              (sym (same_matched laws (sent t) (hears t) (steady.slots _ (not_before tau t)) (steady.clean _ (not_before tau t))
              (may t) sel) ∙ here.0);
          no_header = λ i low high. absurd (omega arith);
          no_end = λ i low high. absurd (omega arith);
          age = here.1 ∙ omega arith;
        }
        | inr w ↦ let u = under t w.was in record {
          header = u.header;
          before = omega (arith, u.before);
          mine = u.mine;
          no_header = up_to (λ i. heads p.id.mag (packet_of (sent i)) ≡ false) u.header t u.no_header (heads_sent t w.no_header);
          no_end = up_to (λ i. ends_serial p.id.mag (packet_of (sent i)) ≡ false) u.header t u.no_end (ends_sent t w.no_end);
          age = w.same_age ∙ omega (arith, u.age, u.before);
        }
      ])
    where
      new : Memory
      new = after Any lines sel true (older (mem t)) (packet_of (hears t))

      next : mem (suc t) ≡ new
      next = memory_next lines sel item s tau former t

      st' : new.storing ≡ true
      st' = ap (λ m. m.storing) (sym next) ∙ st

  -- the header under which a receiver that cannot miss a packet is storing
  record IsBoundAt (t : ℕ) : Type 0 where
    header : ℕ
    latest : IsLatestHeader s p.id.mag (place header) (place t)
    mine : heads_page p.id (packet_of (sent header)) ≡ true
    sure : CannotBeMissed s lines p.id.mag (place header) (place t)

  old_enough : (t h : ℕ) (m : Memory) → m.age ≡ min (t - suc h) 64 → h < t → nat_le (older m).age lines ≡ false → h + lines < t
  old_enough t h m age lt e = let k : lines < min (m.age + 1) 64 = leb-false _ _ e in omega (arith, age)

  bound_at : (t : ℕ) → is_bound lines (older (mem t)) ≡ true → IsBoundAt t
  bound_at t b =
      let u = under t ((and_parts _ _ b).0) in
      let k : u.header + lines < t = old_enough t u.header (mem t) u.age u.before (not-true _ ((and_parts (mem t).storing _ b).1)) in
      let inside = λ (P : ℤ → Type 0) (each : (i : ℕ) → u.header < i → i < t → P (place i)) (i : ℤ) (low : place u.header <ℤ i) (high : i <ℤ place t).
      let o = offset tau i (le_lt _ _ _ (not_before tau u.header) low) in
      subst P (sym o.1) (each o.0 (offset_lt tau u.header o.0 (subst (λ x. place u.header <ℤ x) o.1 low))
      (offset_lt tau o.0 t (subst (λ x. x <ℤ place t) o.1 high))) in
      record {
        header = u.header;
        latest = record {
          earlier = lt_offset tau u.header t u.before;
          is_header = page_heads p.id (packet_of (sent u.header)) u.mine;
          none_between = inside (λ i. heads p.id.mag (packet_of (s i)) ≡ false) u.no_header;
        };
        mine = u.mine;
        sure = (far tau u.header lines t k, inside (λ i. ends_serial p.id.mag (packet_of (s i)) ≡ false) u.no_end);
      }

  -- what is taken is sure, under a header at slot tau or later
  pub taken_at : (t : ℕ) → takes lines sel item (older (mem t)) (packet_of (sent t)) ≡ true → IsTaken s p lines item tau (place t)
  taken_at t h = go item refl
    where
      go : (x : Item) → x ≡ item → IsTaken s p lines x tau (place t)
      go TheHead e = record {
        owner = place t;
        owned = (refl, steady.selected _ (not_before tau t) (subst (λ y. takes lines sel y (older (mem t)) (packet_of (sent t)) ≡ true) (sym e) h));
        not_before = not_before tau t;
        sure = tt;
      }
      go (TheRow r) e =
          let k : (carries (selected_mag sel) (TheRow r) (packet_of (sent t)) && is_bound lines (older (mem t))) ≡ true =
          subst (λ y. takes lines sel y (older (mem t)) (packet_of (sent t)) ≡ true) (sym e) h in
          let b = bound_at t ((and_parts _ _ k).1) in
          record {
            owner = place b.header;
            owned = (b.latest, b.mine, ap (λ m. carries m (TheRow r) (packet_of (sent t))) (same_mag sel p.id fits) ∙ (and_parts _ _ k).0);
            not_before = not_before tau b.header;
            sure = b.sure;
          }
      go TheLinks e =
          let k : (carries (selected_mag sel) TheLinks (packet_of (sent t)) && is_bound lines (older (mem t))) ≡ true =
          subst (λ y. takes lines sel y (older (mem t)) (packet_of (sent t)) ≡ true) (sym e) h in
          let b = bound_at t ((and_parts _ _ k).1) in
          record {
            owner = place b.header;
            owned = (b.latest, b.mine, ap (λ m. carries m TheLinks (packet_of (sent t))) (same_mag sel p.id fits) ∙ (and_parts _ _ k).0);
            not_before = not_before tau b.header;
            sure = b.sure;
          }
