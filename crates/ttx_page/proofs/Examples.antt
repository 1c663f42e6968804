-- The worked examples, by computing.
use Rattle.std.proofs.Common.{◌≡◌, ℕ, zero, suc, ℤ, pos, ◌-ℤ◌, ◌<ℤ◌, ◌≤ℤ◌, Bool, true, false, not, ◌&&◌, refl, subst, inl, inr, arith}
use Rattle.std.proofs.lemmas.Bool.{not-true, and_parts}
use Rattle.std.proofs.lemmas.Int.{ints}
use Rattle.ttx_code.specs.Words.{reading, distance, ones, hamming_word}
use Rattle.ttx_packet.specs.Slots.{kind_of, packet_kind}
use Rattle.ttx_links.specs.Sets.{links_of}
use Rattle.ttx_page.specs.Packets.{packet_of}
use Rattle.ttx_page.specs.Streams.{repeated, heads, ends_serial}
use Rattle.ttx_page.specs.Examples.{Examples, base_cycle, turned_base}
use Rattle.ttx_page.proofs.SlotDistances.{cases_ltz}

-- none of the n slots before j passes the test
unfoldable pub none_back : (ℤ → Bool) → ℕ → ℤ → Bool
none_back test zero j = true
none_back test (suc n) j = not (test (j -ℤ pos 1)) && none_back test n (j -ℤ pos 1)

pub none_back_is : (test : ℤ → Bool) (n : ℕ) (j : ℤ) → none_back test n j ≡ true → (i : ℤ) → (j -ℤ pos n) ≤ℤ i → i <ℤ j → test i ≡ false
unfolding none_back
none_back_is test zero j e i low high = absurd (omega (arith, ints))
none_back_is test (suc n) j e i low high = elim (cases_ltz i (j -ℤ pos 1)) as (λ _. test i ≡ false) [
  | inl lt ↦ none_back_is test n (j -ℤ pos 1) ((and_parts _ _ e).1) i (omega (arith, ints)) lt
  | inr ge ↦ let q : j -ℤ pos 1 ≡ i = omega (arith, ints) in subst (λ x. test x ≡ false) q (not-true _ ((and_parts _ _ e).0))
]

pub examples_hold : Examples
unfolding none_back packet_of kind_of packet_kind reading distance ones hamming_word links_of
examples_hold = record {
  owner = record {
    earlier = omega (arith, ints);
    is_header = refl;
    none_between = λ i low high. none_back_is (λ i. heads 1 (packet_of (repeated base_cycle i))) 2 (pos 31) refl i (omega (arith, ints)) high;
  };
  owner_round = record {
    earlier = omega (arith, ints);
    is_header = refl;
    none_between = λ i low high. none_back_is (λ i. heads 1 (packet_of (repeated turned_base i))) 9 (pos 0) refl i (omega (arith, ints)) high;
  };
  sure = record {
    owner = pos 0;
    owned = (
      record {
        earlier = omega (arith, ints);
        is_header = refl;
        none_between = λ i low high. none_back_is (λ i. heads 1 (packet_of (repeated base_cycle i))) 2 (pos 3) refl i (omega (arith, ints)) high;
      },
      refl,
      refl,
    );
    sure = (
      omega (arith, ints),
      λ i low high. none_back_is (λ i. ends_serial 1 (packet_of (repeated base_cycle i))) 2 (pos 3) refl i
          (omega (arith, ints)) high,
    );
  };
  unsure = λ s. let e = s.0 in omega (arith, ints);
  taken = refl;
  missed_once = refl;
  missed_twice = refl;
  hidden = refl;
  below = refl;
  inhibited = refl;
  suppressed = refl;
}
