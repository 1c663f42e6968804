-- The kind of a slot, case by case.
use Rattle.std.proofs.Common.{◌≡◌, ℕ, ◌≤◌, true, false, ◌&&◌, ◌==◌, if◌then◌else◌, List, Option, Some, None, nat_le, refl, sym, ap, ◌∙◌, inl}
use Rattle.std.proofs.Common.{inr, arith, eqb-true, slice_index}
use Rattle.std.specs.List.{slice_range}
use Rattle.std.proofs.lemmas.Bool.{cases_Bool, cond_both, both_ways, cond-true, cond-false}
use Rattle.ttx_code.specs.Words.{reading}
use Rattle.ttx_packet.specs.Slots.{Kind, IsEmpty, IsUnreadable, IsHeader, IsRow, IsLinks, IsInfo, IsOther, is_empty, are_readable, magazine}
use Rattle.ttx_packet.specs.Slots.{packet_number, links_kind, packet_kind, addressed_kind, kind_of}
use Rattle.ttx_packet.specs.Receptions.{IsFree}

pub kind_when_empty : (slot : List ℕ) → is_empty slot ≡ true → kind_of slot ≡ IsEmpty
unfolding kind_of
kind_when_empty slot e = cond_both (is_empty slot) IsEmpty _ (λ (k : Kind). k ≡ IsEmpty) (λ _. refl) (λ f. absurd (both_ways _ f e))

pub kind_when_read : (slot : List ℕ) (low high : ℕ) → is_empty slot ≡ false → reading (slice_index slot 0) ≡ Some low →
    reading (slice_index slot 1) ≡ Some high →
    kind_of slot ≡ packet_kind slot (magazine low) (packet_number low high)
unfolding kind_of
kind_when_read slot low high e first second =
    cond_both (is_empty slot) IsEmpty _ (λ (k : Kind). k ≡ packet_kind slot (magazine low) (packet_number low high)) (λ f. absurd (both_ways _ e f))
    (λ _. ap (λ o. addressed_kind slot o (reading (slice_index slot 1))) first ∙ ap (addressed_kind slot (Some low)) second)

abbrev pub IsPacketKind : Kind → Type 0
IsPacketKind IsEmpty = ⊥
IsPacketKind _ = Unit {0}

links_kind_is_packet : (mag : ℕ) (o : Option ℕ) → IsPacketKind (links_kind mag o)
links_kind_is_packet mag None = tt
links_kind_is_packet mag (Some d) = cond_both (d == 0) (IsLinks mag) (IsOther mag 27) IsPacketKind (λ _. tt) (λ _. tt)

packet_kind_is_packet : (slot : List ℕ) (mag number : ℕ) → IsPacketKind (packet_kind slot mag number)
unfolding packet_kind
packet_kind_is_packet slot mag number =
    cond_both (number == 0) _ _ IsPacketKind
    (λ _. cond_both (are_readable (slice_range slot 2 10)) (IsHeader mag) IsUnreadable IsPacketKind (λ _. tt) (λ _. tt))
    (λ _. cond_both (nat_le number 24) (IsRow mag number) _ IsPacketKind (λ _. tt)
    (λ _. cond_both (number == 27) _ _ IsPacketKind (λ _. links_kind_is_packet mag (reading (slice_index slot 2)))
    (λ _. cond_both ((number == 30) && (mag == 8)) IsInfo (IsOther mag number) IsPacketKind (λ _. tt) (λ _. tt))))

addressed_kind_is_packet : (slot : List ℕ) (low high : Option ℕ) → IsPacketKind (addressed_kind slot low high)
addressed_kind_is_packet slot None high = tt
addressed_kind_is_packet slot (Some low) None = tt
addressed_kind_is_packet slot (Some low) (Some high) = packet_kind_is_packet slot (magazine low) (packet_number low high)

not_empty_kind : (k : Kind) → IsPacketKind k → k ≡ IsEmpty → ⊥
not_empty_kind IsEmpty p e = p
not_empty_kind IsUnreadable p e = cc
not_empty_kind (IsHeader mag) p e = cc
not_empty_kind (IsRow mag number) p e = cc
not_empty_kind (IsLinks mag) p e = cc
not_empty_kind IsInfo p e = cc
not_empty_kind (IsOther mag number) p e = cc

pub empty_when_kind : (slot : List ℕ) → kind_of slot ≡ IsEmpty → is_empty slot ≡ true
unfolding kind_of
empty_when_kind slot e =
    cond_both (is_empty slot) IsEmpty _ (λ (k : Kind). k ≡ IsEmpty → is_empty slot ≡ true) (λ t _. t)
    (λ _ k. absurd (not_empty_kind _ (addressed_kind_is_packet slot (reading (slice_index slot 0)) (reading (slice_index slot 1))) k)) e

-- ---- bytes that may be anything

-- free bytes come after the address, after byte 33 where the packet number is 0, and not at all in packet 27
pub record FreeBytes (number x : ℕ) : Type 0 where
  pub behind_address : 2 ≤ x
  pub behind_header : (number == 0) ≡ true → 34 ≤ x
  pub not_links : (number == 27) ≡ true → ⊥

free_links : (mag x : ℕ) (o : Option ℕ) → IsFree (links_kind mag o) x → ⊥
free_links mag x None f = f
free_links mag x (Some d) f = cond_both (d == 0) (IsLinks mag) (IsOther mag 27) (λ k. IsFree k x → ⊥) (λ _ f. f) (λ _ f. f) f

pub free_bytes : (slot : List ℕ) (mag number x : ℕ) → IsFree (packet_kind slot mag number) x → FreeBytes number x
unfolding packet_kind
free_bytes slot mag number x =
    let P : Kind → Type 0 = λ k. IsFree k x → FreeBytes number x in
    cond_both (number == 0) _ _ P
    (λ n. cond_both (are_readable (slice_range slot 2 10)) (IsHeader mag) IsUnreadable P (λ _ f. record {
      behind_address = omega (arith, f);
      behind_header = λ _. f;
      not_links = λ q. let e : number ≡ 0 = eqb-true number 0 n in let e' : number ≡ 27 = eqb-true number 27 q in omega arith;
    }) (λ _ f. absurd f))
    (λ n. cond_both (nat_le number 24) (IsRow mag number) _ P (λ _ f. absurd f)
    (λ _. cond_both (number == 27) _ _ P (λ _ f. absurd (free_links mag x (reading (slice_index slot 2)) f))
    (λ q. cond_both ((number == 30) && (mag == 8)) IsInfo (IsOther mag number) P
    (λ _ f. record { behind_address = f; behind_header = λ z. absurd (both_ways _ n z); not_links = λ z. both_ways _ q z }) (λ _ f. absurd f))))

-- ---- equal kinds

-- the kind of a packet depends on bytes 2 to 9 if the number is 0, on byte 2 if it is 27, and on no others
pub same_packet_kind : (mag number : ℕ) (sent received : List ℕ) →
    ((number == 0) ≡ true → are_readable (slice_range received 2 10) ≡ are_readable (slice_range sent 2 10)) →
    ((number == 27) ≡ true → reading (slice_index received 2) ≡ reading (slice_index sent 2)) →
    packet_kind received mag number ≡ packet_kind sent mag number
unfolding packet_kind
same_packet_kind mag number sent received header links =
    elim (cases_Bool (number == 0)) as (λ _. packet_kind received mag number ≡ packet_kind sent mag number) [
      | inl n ↦ cond-true (number == 0) _ _ n ∙ ap (λ t. if t then IsHeader mag else IsUnreadable) (header n) ∙ sym (cond-true (number == 0) _ _ n)
      | inr n ↦ elim (cases_Bool (number == 27)) as (λ _. packet_kind received mag number ≡ packet_kind sent mag number) [
        | inl l ↦ ap (λ o.
            if number == 0 then (if are_readable (slice_range received 2 10) then IsHeader mag else IsUnreadable)
            else if nat_le number 24 then IsRow mag number
            else if number == 27 then links_kind mag o
            else if (number == 30) && (mag == 8) then IsInfo
            else IsOther mag number) (links l) ∙ cond-false (number == 0) _ _ n ∙ sym (cond-false (number == 0) _ _ n)
        | inr l ↦ cond-false (number == 0) _ _ n
            ∙ ap (λ (k : Kind). if nat_le number 24 then IsRow mag number else k)
            (cond-false (number == 27) _ _ l ∙ sym (cond-false (number == 27) _ _ l))
            ∙ sym (cond-false (number == 0) _ _ n)
      ]
    ]
