-- The examples outside the error rule.
use Rattle.std.proofs.Common.{◌≡◌, ◌⊎◌, ℕ, ℤ, pos, ◌<ℤ◌, false, [], ◌∷◌, ◌++◌, get_or, slice_index, refl, subst, inl, inr, arith}
use Rattle.std.proofs.lemmas.Int.{ints}
use Rattle.ttx_code.specs.Words.{Near, reading, distance, ones, hamming_word}
use Rattle.ttx_packet.specs.Slots.{kind_of, packet_kind}
use Rattle.ttx_links.specs.Sets.{links_of}
use Rattle.ttx_page.specs.Packets.{packet_of}
use Rattle.ttx_page.specs.Pages.{TheRow}
use Rattle.ttx_page.specs.Streams.{repeated, heads, carries, IsTransmission, AreSuccessive}
use Rattle.ttx_page.specs.Receptions.{IsRight}
use Rattle.ttx_page.specs.Examples.{id_100, base_cycle}
use Rattle.ttx_page.specs.ErrorRule.{spoilt_base, AreOutside}
use Rattle.ttx_page.proofs.Examples.{none_back, none_back_is}

first_sending : IsTransmission (repeated base_cycle) id_100 (TheRow 1) (pos 3)
unfolding none_back packet_of kind_of packet_kind reading distance ones hamming_word links_of
first_sending = record {
  owner = pos 0;
  owned = (
    record {
      earlier = omega (arith, ints);
      is_header = refl;
      none_between = λ i low high. none_back_is (λ i. heads 1 (packet_of (repeated base_cycle i))) 2 (pos 3) refl i (omega (arith, ints)) high;
    },
    refl,
    refl,
  );
}

second_sending : IsTransmission (repeated base_cycle) id_100 (TheRow 1) (pos 31)
unfolding none_back packet_of kind_of packet_kind reading distance ones hamming_word links_of
second_sending = record {
  owner = pos 28;
  owned = (
    record {
      earlier = omega (arith, ints);
      is_header = refl;
      none_between = λ i low high. none_back_is (λ i. heads 1 (packet_of (repeated base_cycle i))) 2 (pos 31) refl i (omega (arith, ints)) high;
    },
    refl,
    refl,
  );
}

none_between : (x : ℤ) → pos 3 <ℤ x → x <ℤ pos 31 → carries 1 (TheRow 1) (packet_of (repeated base_cycle x)) ≡ false
unfolding none_back packet_of kind_of packet_kind reading distance ones hamming_word links_of
none_between x low high = none_back_is (λ i. carries 1 (TheRow 1) (packet_of (repeated base_cycle i))) 27 (pos 31) refl x (omega (arith, ints)) high

both_sendings : AreSuccessive (repeated base_cycle) id_100 (TheRow 1) (pos 3 ∷ pos 31 ∷ [])
both_sendings = (first_sending, omega (arith, ints), λ x low high t. let f = none_between x low high in let h = t.owned.2 in cc, second_sending)

spoilt : (n : ℕ) → slice_index (get_or (spoilt_base ++ spoilt_base) n []) 2 ≡ 0x20 → n ≡ 3 ⊎ n ≡ 31 → ⊥
spoilt n e (inl is) = let f : slice_index (get_or (spoilt_base ++ spoilt_base) 3 []) 2 ≡ 0x20 =
    subst (λ m. slice_index (get_or (spoilt_base ++ spoilt_base) m []) 2 ≡ 0x20) is e in omega arith
spoilt n e (inr is) = let f : slice_index (get_or (spoilt_base ++ spoilt_base) 31 []) 2 ≡ 0x20 =
    subst (λ m. slice_index (get_or (spoilt_base ++ spoilt_base) m []) 2 ≡ 0x20) is e in omega arith

not_right : (j : ℤ) (k : ℕ) → j ≡ pos k → (k ≡ 3) ⊎ (k ≡ 31) → slice_index (repeated base_cycle j) 2 ≡ 0x20 →
    IsRight (repeated base_cycle) (pos 0) (spoilt_base ++ spoilt_base) 2 j → ⊥
not_right j k e which sent r =
    let same : r.index ≡ k = let p = r.place in omega (arith, ints) in
    spoilt r.index (let q = r.right in cc)
    (elim which as (λ _. (r.index ≡ 3) ⊎ (r.index ≡ 31)) [ inl a ↦ inl (omega arith) | inr b ↦ inr (omega arith) ])

two_wrong_bits : Near 0x20 0x23 → ⊥
unfolding distance ones
two_wrong_bits near = omega arith

pub examples_are_outside : AreOutside
unfolding kind_of packet_kind reading distance ones hamming_word
examples_are_outside = record {
  both_wrong = λ r.
      elim (r.one_right (TheRow 1) 2 (omega arith, omega arith) (pos 3 ∷ pos 31 ∷ []) refl both_sendings
      ((omega (arith, ints), omega (arith, ints)), ((omega (arith, ints), omega (arith, ints)), tt))) as (λ _. ⊥) [
        | inl first ↦ not_right (pos 3) 3 refl (inl refl) refl first
        | inr later ↦ elim later as (λ _. ⊥) [ inl second ↦ not_right (pos 31) 31 refl (inr refl) refl second | inr none ↦ none ]
      ];
  two_bits = λ r. elim (r.near 2 (omega arith)) as (λ _. ⊥) [ inl free ↦ free | inr near ↦ two_wrong_bits near ];
}
