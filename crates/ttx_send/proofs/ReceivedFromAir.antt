-- What is received of the air is received of the stream that it carries, where it carries it.
use Rattle.std.proofs.Common.{◌≡◌, ◌⊎◌, ℕ, ◌<◌, ℤ, pos, ◌+ℤ◌, ◌<ℤ◌, ◌≤ℤ◌, List, [], ◌∷◌, length, refl, sym, ◌∙◌, subst, inl, inr, arith, slice_index}
use Rattle.std.proofs.lemmas.Int.{ints}
use Rattle.std.specs.List.{AllByRecursion}
use Rattle.std.proofs.lemmas.List.Elements.{All-get_or}
use Rattle.ttx_code.specs.Words.{Near}
use Rattle.ttx_code.specs.Laws.{EachByteIsNearItself}
use Rattle.ttx_packet.specs.Slots.{IsSlot, kind_of}
use Rattle.ttx_packet.specs.Receptions.{IsFree, MayBeReceivedAs}
use Rattle.ttx_packet.specs.Laws.{EmptySlotsAreEmpty}
use Rattle.ttx_header.specs.Ids.{Id}
use Rattle.ttx_page.specs.Packets.{packet_of}
use Rattle.ttx_page.specs.Pages.{Page}
use Rattle.ttx_page.specs.declared.class.Class.{Class}
use Rattle.ttx_page.specs.declared.class.Class.TheVariants.{Any, Clearing}
use Rattle.ttx_page.specs.Receptions.{Received, IsRight, OneIs}
use Rattle.ttx_page.specs.Streams.{Stream, turned, repeated, IsTransmission}
use Rattle.ttx_page.specs.Laws.{EachSlotTurns}
use Rattle.ttx_page.proofs.SlotDistances.{cases_ltz}
use Rattle.ttx_cycle.specs.Files.{IsCycle}
use Rattle.ttx_witness.specs.Coverage.{Certificate, limit}
use Rattle.ttx_certify.proofs.AcceptedIsSeen.{fits_matches}
use Rattle.ttx_proof.specs.Carried.{AcceptedIsCarried, IsTunedBy, CarriedIsSeen}
use Rattle.ttx_send.specs.Laws.{SentIsReceived, AirIsReceived, IsAiringFrom, SeenSoFar, AcceptedIsSeenSoFar, SeenOnAir, AcceptedIsSeenOnAir}
use Rattle.ttx_send.proofs.SameKind.{fixed, same_kind}
use Rattle.ttx_send.proofs.AlikeButClock.{AreAlike, alike, alike_itself, to_successive, all_sent, text_is_fixed}

pub sent_is_received : EachByteIsNearItself → EmptySlotsAreEmpty → SentIsReceived
sent_is_received itself empty slot sent s may = record {
  kind = same_kind slot sent s may empty;
  itself = record {
    slot = may.is_slot;
    empty = may.empty;
    near = λ x l. elim (may.same x l) as (λ _. IsFree (kind_of slot) x ⊎ Near (slice_index slot x) (slice_index sent x))
        [ inl f ↦ inl f | inr e ↦ inr (subst (λ b. Near (slice_index slot x) b) (sym e) (itself (slice_index slot x))) ];
  };
  received = λ r near. record {
    slot = near.slot;
    empty = λ z. near.empty (may.empty z);
    near = λ x l. elim (near.near x l) as (λ _. IsFree (kind_of slot) x ⊎ Near (slice_index slot x) (slice_index r x)) [
      | inl f ↦ inl (subst (λ k. IsFree k x) (same_kind slot sent s may empty) f)
      | inr n ↦ elim (may.same x l) as (λ _. IsFree (kind_of slot) x ⊎ Near (slice_index slot x) (slice_index r x))
          [ inl f ↦ inl f | inr e ↦ inr (subst (λ b. Near b (slice_index r x)) e n) ]
    ];
  };
}

one_of : (P Q R : ℤ → Type 0) (places : List ℤ) → AllByRecursion R places → ((j : ℤ) → R j → P j → Q j) → OneIs P places → OneIs Q places
one_of P Q R [] all step one = one
one_of P Q R (j ∷ rest) all step one = elim one as (λ _. Q j ⊎ OneIs Q rest)
    [ inl p ↦ inl (step j all.0 p) | inr o ↦ inr (one_of P Q R rest all.1 step o) ]

-- where each slot of the air is as good as the stream's
module _ (s air : Stream) (near : (j : ℤ) → AreAlike (packet_of (s j)) (packet_of (air j)))
    (each : (j : ℤ) (r : List ℕ) → MayBeReceivedAs (air j) r → MayBeReceivedAs (s j) r)
    (text : (j : ℤ) (x : ℕ) → x < 42 → (IsFree (kind_of (s j)) x → ⊥) → slice_index (air j) x ≡ slice_index (s j) x) where
  pub received_alike : (page : Id) (repeat : ℕ) (tau : ℤ) (received : List (List ℕ)) → Received air page repeat tau received →
      Received s page repeat tau received
  received_alike page repeat tau received r = record {
    each = λ n l. each (tau +ℤ pos n) _ (r.each n l);
    one_right = λ item x is_text places count run inside.
        one_of (IsRight air tau received x) (IsRight s tau received x) (IsTransmission s page item) places (all_sent s page item places run)
        (λ j t right. let q = text_is_fixed s page item x j is_text t in
        record { index = right.index; place = right.place; right = right.right ∙ text j x q.0 q.1 })
        (r.one_right item x is_text places count (to_successive s air near page item places run) inside);
  }

pub air_is_received : EachByteIsNearItself → EmptySlotsAreEmpty → AirIsReceived
air_is_received itself empty s air slots may page repeat tau received r =
    received_alike s air (λ j. alike (s j) (air j) (slots j) (may j) empty)
    (λ j got near. (sent_is_received itself empty (s j) (air j) (slots j) (may j)).received got near)
    (λ j x l fixed_there. fixed (s j) (air j) (slots j) (may j) x l fixed_there) page repeat tau received r

pub repeated_slots : EachSlotTurns → (cycle : List (List ℕ)) → IsCycle cycle → (j : ℤ) → IsSlot (repeated cycle j)
repeated_slots turn cycle is j = All-get_or IsSlot cycle (turned (length cycle) j) [] (turn (length cycle) j is.some).inside is.each

-- s from slot start on, up to now; the air before that and after it
module _ (s air : Stream) (start now : ℤ) where
  picked : (j : ℤ) → (j <ℤ start) ⊎ (start ≤ℤ j) → (j <ℤ now) ⊎ (now ≤ℤ j) → List ℕ
  picked j (inl before) c = air j
  picked j (inr from) (inl here) = s j
  picked j (inr from) (inr after) = air j

  pub within : Stream
  within j = picked j (cases_ltz j start) (cases_ltz j now)

  picked_by : (P : List ℕ → Type 0) (j : ℤ) → (start ≤ℤ j → j <ℤ now → P (s j)) → P (air j) → (b : (j <ℤ start) ⊎ (start ≤ℤ j)) →
      (c : (j <ℤ now) ⊎ (now ≤ℤ j)) → P (picked j b c)
  unfolding picked
  picked_by P j here there (inl before) c = there
  picked_by P j here there (inr from) (inl lt) = here from lt
  picked_by P j here there (inr from) (inr after) = there

  by_within : (P : List ℕ → Type 0) (j : ℤ) → (start ≤ℤ j → j <ℤ now → P (s j)) → P (air j) → P (within j)
  unfolding within
  by_within P j here there = picked_by P j here there (cases_ltz j start) (cases_ltz j now)

  picked_is : (j : ℤ) → start ≤ℤ j → j <ℤ now → (b : (j <ℤ start) ⊎ (start ≤ℤ j)) → (c : (j <ℤ now) ⊎ (now ≤ℤ j)) → picked j b c ≡ s j
  unfolding picked
  picked_is j from lt (inl before) c = absurd (omega (arith, ints))
  picked_is j from lt (inr le) (inl here) = refl
  picked_is j from lt (inr le) (inr after) = absurd (omega (arith, ints))

  pub within_is : (j : ℤ) → start ≤ℤ j → j <ℤ now → within j ≡ s j
  unfolding within
  within_is j from lt = picked_is j from lt (cases_ltz j start) (cases_ltz j now)

  pub within_is_received : EachByteIsNearItself → EmptySlotsAreEmpty → ((j : ℤ) → IsSlot (s j)) → IsAiringFrom s air start now →
      (page : Id) (repeat : ℕ) (tau : ℤ) (received : List (List ℕ)) → Received air page repeat tau received →
      Received within page repeat tau received
  within_is_received itself empty slots may = received_alike within air
      (λ j. by_within (λ x. AreAlike (packet_of x) (packet_of (air j))) j (λ from lt. alike (s j) (air j) (slots j) (may j from lt) empty)
      (alike_itself (packet_of (air j))))
      (λ j got. by_within (λ x. MayBeReceivedAs (air j) got → MayBeReceivedAs x got) j
      (λ from lt near. (sent_is_received itself empty (s j) (air j) (slots j) (may j from lt)).received got near) (λ near. near))
      (λ j x l. by_within (λ y. (IsFree (kind_of y) x → ⊥) → slice_index (air j) x ≡ slice_index y x) j
      (λ from lt fixed_there. fixed (s j) (air j) (slots j) (may j from lt) x l fixed_there) (λ _. refl))

pub accepted_is_seen_so_far : EachByteIsNearItself → EmptySlotsAreEmpty → EachSlotTurns → AcceptedIsCarried → CarriedIsSeen → AcceptedIsSeenSoFar
accepted_is_seen_so_far itself empty turn carried seen cycle air pages w is_cycle are_pages is_certificate accepts start now may n p here = record {
  shown = λ sel fits tau begin former m received after tuned is_former permitted long until run.
      seen (within (repeated cycle) air start now) (repeated cycle) start now (within_is (repeated cycle) air start now) p sel w.class w.lines
      w.repeat (limit w) begin (are_pages n p here) is_certificate.few_lines (fits_matches pages p sel fits) after
      (carried cycle pages w is_cycle are_pages is_certificate accepts n p here sel fits begin) tau former m received tuned is_former
      (within_is_received (repeated cycle) air start now itself empty (repeated_slots turn cycle is_cycle) may p.id w.repeat tau received permitted)
      long until run;
}

-- whatever the class, a receiver may be tuned at this very slot
tuned_here : (class : Class) (tau : ℤ) → IsTunedBy class tau tau
tuned_here Any tau = omega (arith, ints)
tuned_here Clearing tau = refl

-- what is seen so far is seen of an air that has no begin and no end
pub always_seen : (air : Stream) (pages : List Page) (p : Page) (w : Certificate) → ((start now : ℤ) → SeenSoFar air pages p w start now) →
    SeenOnAir air pages p w
always_seen air pages p w so_far = record {
  shown = λ sel fits tau former m received is_former permitted long run.
      let now = tau +ℤ pos (length received) in
      (so_far tau now).shown sel fits tau tau former m received (omega (arith, ints)) (tuned_here w.class tau) is_former permitted
      (omega (arith, ints, long)) (omega (arith, ints)) run;
}

pub accepted_is_seen_on_air : AcceptedIsSeenSoFar → AcceptedIsSeenOnAir
accepted_is_seen_on_air so_far cycle air pages w is_cycle are_pages is_certificate accepts may n p here =
    always_seen air pages p w
    (λ start now. so_far cycle air pages w is_cycle are_pages is_certificate accepts start now (λ j _ _. may j) n p here)
