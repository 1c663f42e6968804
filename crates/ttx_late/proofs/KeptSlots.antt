-- What wrong bits do not change about a slot: whether it is a header of the magazine, of the selection, of the page number, and whether it
-- ends pages of the magazine in serial transmission.
use Rattle.std.proofs.Common.{◌≡◌, ℕ, ◌<◌, ◌≤◌, true, List, [], get_or, refl, sym, ap, ◌∙◌, subst, inl, inr, arith}
use Rattle.std.proofs.lemmas.Bool.{cond_both, both_ways, cases_Bool}
use Rattle.ttx_code.specs.Words.{Near}
use Rattle.ttx_packet.specs.Slots.{IsSlot, Kind, IsEmpty, IsHeader, is_empty, kind_of, is_clean}
use Rattle.ttx_packet.specs.Receptions.{IsFree, MayBeReceivedAs}
use Rattle.ttx_packet.specs.Laws.{KindIsKept}
use Rattle.ttx_header.specs.Laws.{HeaderIsKept}
use Rattle.ttx_page.specs.Packets.{Packet, Empty, Header, Other, packet_of, packet_of_kind}
use Rattle.ttx_page.specs.declared.selection.Selection.{Selection}
use Rattle.ttx_page.specs.Streams.{heads, heads_matched, ends_serial}
use Rattle.ttx_late.specs.LateReceivers.{heads_number}

-- the header in a packet; all other packets are the same
abbrev pub outline : Packet → Packet
outline (Header id control text) = Header id control []
outline x = Other

pub packet_is : (slot : List ℕ) (k : Kind) → kind_of slot ≡ k → packet_of slot ≡ packet_of_kind slot k
unfolding packet_of
packet_is slot k e = ap (packet_of_kind slot) e

pub packet_empty : (slot : List ℕ) → is_empty slot ≡ true → packet_of slot ≡ Empty
unfolding kind_of
packet_empty slot e = packet_is slot IsEmpty (cond_both (is_empty slot) IsEmpty _ (λ k. k ≡ IsEmpty) (λ _. refl) (λ f. absurd (both_ways _ f e)))

-- bytes 0 to 9 of a header are not free
near_header : (sent received : List ℕ) (mag : ℕ) → kind_of sent ≡ IsHeader mag → MayBeReceivedAs sent received → (x : ℕ) → x < 10 →
    Near (get_or sent x 0) (get_or received x 0)
near_header sent received mag e h x lt = elim (h.near x (omega arith)) as (λ _. Near (get_or sent x 0) (get_or received x 0))
    [ inl f ↦ let k : 34 ≤ x = subst (λ kind. IsFree kind x) e f in absurd (omega arith) | inr near ↦ near ]

-- the packet received is a header with the same id and control bits as the one sent, or neither is a header
pub received_as : KindIsKept → HeaderIsKept → (sent received : List ℕ) → IsSlot sent → is_clean sent ≡ true → MayBeReceivedAs sent received →
    outline (packet_of received) ≡ outline (packet_of sent)
received_as kind header sent received s clean h =
    elim (cases_Bool (is_empty sent)) as (λ _. outline (packet_of received) ≡ outline (packet_of sent)) [
      | inl e ↦ cc (packet_empty received (h.empty e), packet_empty sent e)
      | inr e ↦ elim (kind sent received s clean e h) as (λ _. outline (packet_of received) ≡ outline (packet_of sent)) [
        | inl same ↦ ap outline (packet_is received (kind_of sent) same) ∙ same_outline (kind_of sent) refl
            ∙ ap outline (sym (packet_is sent (kind_of sent) refl))
        | inr lost ↦ cc (packet_empty received lost.1, packet_is sent _ lost.0)
      ]
    ]
  where
    same_outline : (k : Kind) → kind_of sent ≡ k → outline (packet_of_kind received k) ≡ outline (packet_of_kind sent k)
    same_outline (IsHeader mag) e = let kept = header sent received mag s h.slot clean e (near_header sent received mag e h) in cc
    same_outline k e = refl

heads_alike : (mag : ℕ) (p q : Packet) → outline p ≡ outline q → heads mag p ≡ heads mag q
heads_alike mag p q e = grind arith

matched_alike : (sel : Selection) (p q : Packet) → outline p ≡ outline q → heads_matched sel p ≡ heads_matched sel q
matched_alike sel p q e = grind arith

number_alike : (sel : Selection) (p q : Packet) → outline p ≡ outline q → heads_number sel p ≡ heads_number sel q
number_alike sel p q e = grind arith

ends_alike : (mag : ℕ) (p q : Packet) → outline p ≡ outline q → ends_serial mag p ≡ ends_serial mag q
ends_alike mag p q e = grind arith

-- what is received passes the same tests as what was sent
pub record SameTests (sent received : List ℕ) : Type 0 where
  pub heads : (mag : ℕ) → heads mag (packet_of received) ≡ heads mag (packet_of sent)
  pub matched : (sel : Selection) → heads_matched sel (packet_of received) ≡ heads_matched sel (packet_of sent)
  pub number : (sel : Selection) → heads_number sel (packet_of received) ≡ heads_number sel (packet_of sent)
  pub ends : (mag : ℕ) → ends_serial mag (packet_of received) ≡ ends_serial mag (packet_of sent)

pub same_tests : KindIsKept → HeaderIsKept → (sent received : List ℕ) → IsSlot sent → is_clean sent ≡ true →
    MayBeReceivedAs sent received → SameTests sent received
same_tests kind header sent received s clean h =
    let e = received_as kind header sent received s clean h in
    record {
      heads = λ mag. heads_alike mag _ _ e;
      matched = λ sel. matched_alike sel _ _ e;
      number = λ sel. number_alike sel _ _ e;
      ends = λ mag. ends_alike mag _ _ e;
    }
