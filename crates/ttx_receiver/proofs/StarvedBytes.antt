-- Slots in which the lowest bit of one byte is wrong.
use Rattle.std.proofs.Common.{◌≡◌, ◌≢◌, ℕ, ◌^◌, ◌<◌, ◌≤◌, ◌&&◌, not, leb, Bool, true, false, ◌==◌, List, get_or, refl, sym, ◌∙◌, subst, inl, inr}
use Rattle.std.proofs.Common.{arith, eqb-true, eq-eqb, leb-true, length-set, get_or-set_same, get_or-set_other}
use Rattle.std.specs.Prelude.{bit_xor}
use Rattle.std.proofs.lemmas.Bool.{agree_below, agree_below_at, cases_Bool, not-true, and_parts, both_ways}
use Rattle.ttx_code.specs.Words.{Near, ones, distance, is_odd}
use Rattle.ttx_packet.specs.Slots.{IsSlot}
use Rattle.ttx_packet.specs.Receptions.{MayBeReceivedAs}
use Rattle.ttx_page.specs.Packets.{Empty, packet_of}
use Rattle.ttx_receiver.specs.Starving.{spoilt}
use Rattle.ttx_receiver.proofs.ReceivedPackets.{packet_empty}

-- a byte with its lowest bit wrong is a byte, differs in one bit, and has the other parity
abbrev is_flipped : ℕ → Bool
is_flipped b = leb (bit_xor b 1) 255 && leb (distance b (bit_xor b 1)) 1 && leb (distance b b) 1 && not (is_odd b && is_odd (bit_xor b 1))

flips : agree_below is_flipped (λ _. true) 256 ≡ true
unfolding ones distance
flips = refl

flip_at : (b : ℕ) → b < 256 → is_flipped b ≡ true
flip_at b lt = agree_below_at is_flipped (λ _. true) 256 b flips lt

flip_byte : (b : ℕ) → b < 256 → bit_xor b 1 < 256
flip_byte b lt = let h : bit_xor b 1 ≤ 255 = leb-true _ _ ((and_parts _ _ (and_parts _ _ (and_parts _ _ (flip_at b lt)).0).0).0) in omega arith

flip_near : (b : ℕ) → b < 256 → Near b (bit_xor b 1)
flip_near b lt = leb-true _ _ ((and_parts _ _ (and_parts _ _ (and_parts _ _ (flip_at b lt)).0).0).1)

pub near_self : (b : ℕ) → b < 256 → Near b b
near_self b lt = leb-true _ _ ((and_parts _ _ (and_parts _ _ (flip_at b lt)).0).1)

both_false : (a b : Bool) → (a && b) ≡ false → a ≡ true → b ≡ false
both_false true b h k = h
both_false false b h k = cc

pub flip_even : (b : ℕ) → b < 256 → is_odd b ≡ true → is_odd (bit_xor b 1) ≡ false
flip_even b lt odd = both_false (is_odd b) (is_odd (bit_xor b 1)) (not-true _ ((and_parts _ _ (flip_at b lt)).1)) odd

module _ (slot : List ℕ) (s : IsSlot slot) where
  pub kept_byte : (x y : ℕ) → y ≢ x → get_or (spoilt slot x) y 0 ≡ get_or slot y 0
  kept_byte x y ne = get_or-set_other slot x y (bit_xor (get_or slot x 0) 1) 0 ne

  pub flipped_byte : (x : ℕ) → x < 42 → get_or (spoilt slot x) x 0 ≡ bit_xor (get_or slot x 0) 1
  flipped_byte x lt = get_or-set_same slot x (bit_xor (get_or slot x 0) 1) 0 (omega (arith, s.size))

  each_byte : (P : ℕ → ℕ → Type 0) (x : ℕ) → x < 42 → ((y : ℕ) → P y (get_or slot y 0)) → P x (bit_xor (get_or slot x 0) 1) → (y : ℕ) →
      P y (get_or (spoilt slot x) y 0)
  each_byte P x lt others flipped y = elim (cases_Bool (y == x)) as (λ _. P y (get_or (spoilt slot x) y 0)) [
    | inl e ↦ let same : y ≡ x = eqb-true y x e in subst (λ z. P z (get_or (spoilt slot x) z 0)) (sym same)
        (subst (P x) (sym (flipped_byte x lt)) flipped)
    | inr e ↦ subst (P y) (sym (kept_byte x y (λ q. both_ways _ e (eq-eqb y x q)))) (others y)
  ]

  pub spoilt_slot : (x : ℕ) → x < 42 → IsSlot (spoilt slot x)
  spoilt_slot x lt = record {
    size = length-set slot x (bit_xor (get_or slot x 0) 1) ∙ s.size;
    bytes = each_byte (λ _ b. b < 2 ^ 8) x lt s.bytes (flip_byte (get_or slot x 0) (s.bytes x));
  }

  -- one bit of a packet may be received wrong
  pub spoilt_received : (x : ℕ) → x < 42 → (packet_of slot ≡ Empty → ⊥) → MayBeReceivedAs slot (spoilt slot x)
  spoilt_received x lt some = record {
    slot = spoilt_slot x lt;
    empty = λ e. absurd (some (packet_empty slot e));
    near = λ y ylt. inr (each_byte (λ y b. Near (get_or slot y 0) b) x lt (λ y. near_self (get_or slot y 0) (s.bytes y))
        (flip_near (get_or slot x 0) (s.bytes x)) y);
  }

  pub received_as_sent : MayBeReceivedAs slot slot
  received_as_sent = record { slot = s; empty = λ e. e; near = λ y ylt. inr (near_self (get_or slot y 0) (s.bytes y)) }
