-- A packet that begins with the address written for it.
use Rattle.std.proofs.Common.{◌≡◌, ℕ, ◌+◌, ◌*◌, ◌/◌, ◌%◌, ◌<◌, ◌≤◌, ◌==◌, ◌&&◌, Bool, true, false, if◌then◌else◌, ◌++◌, Some, refl, ap, ap₂, ◌∙◌}
use Rattle.std.proofs.Common.{arith, inl, inr, eqb, eqb-true}
use Rattle.std.specs.Prelude.{unwrap_or}
use Rattle.std.proofs.lemmas.Bool.{cases_Bool, agree_below_at}
use Rattle.std.proofs.lemmas.Bool.Decides.{nat_tests}
use Rattle.ttx_code.specs.Words.{reading, hamming_word}
use Rattle.ttx_code.specs.Laws.{WordsAreRead, WordsAreWords}
use Rattle.ttx_packet.specs.Slots.{is_empty, magazine, packet_number, packet_kind, address_bytes}
use Rattle.ttx_packet.specs.Laws.{AddressIsReadBack}
use Rattle.ttx_packet.proofs.Cases.{kind_when_read}

word_not_zero : (n : ℕ) → n < 16 → (hamming_word n == 0) ≡ false
unfolding hamming_word
word_not_zero n l = agree_below_at (λ n. eqb (hamming_word n) 0) (λ _. false) 16 n refl l

and_false : (a b : Bool) → a ≡ false → (a && b) ≡ false
and_false true b e = cc
and_false false b e = refl

both : (a b : Bool) → a ≡ true → b ≡ true → (a && (b && true)) ≡ true
both true true e f = refl
both true false e f = f
both false b e f = e

magazine_read : (mag bit : ℕ) → 1 ≤ mag → mag ≤ 8 → bit < 2 → magazine (mag % 8 + 8 * bit) ≡ mag
magazine_read mag bit low high small =
    elim (cases_Bool ((mag % 8 + 8 * bit) % 8 == 0)) as (λ t. (if (mag % 8 + 8 * bit) % 8 == 0 then 8 else (mag % 8 + 8 * bit) % 8) ≡ mag) [
      | inl z ↦ let e : (mag % 8 + 8 * bit) % 8 ≡ 0 = eqb-true _ 0 z in rw z (omega arith)
      | inr z ↦ rw z (omega (arith, positive z))
    ]
  where
    positive : ((mag % 8 + 8 * bit) % 8 == 0) ≡ false → 1 ≤ (mag % 8 + 8 * bit) % 8
    positive z = grind (arith, nat_tests)

module _ (read : WordsAreRead) (words : WordsAreWords) where
  pub address_is_read_back : AddressIsReadBack
  address_is_read_back mag number rest low high small =
      let a = mag % 8 + 8 * (number % 2) in
      let b = number / 2 in
      let la : a < 16 = omega arith in
      let lb : b < 16 = omega arith in
      let slot = address_bytes mag number ++ rest in
      let first : reading (hamming_word a) ≡ Some a = read a la in
      let second : reading (hamming_word b) ≡ Some b = read b lb in
      let joined : packet_number a b ≡ number = omega arith in
      let some : is_empty slot ≡ false = and_false _ _ (word_not_zero a la) in
      record {
        words = both _ _ (words a la) (words b lb);
        numbered = ap₂ packet_number (ap (λ o. unwrap_or o 0) first) (ap (λ o. unwrap_or o 0) second) ∙ joined;
        kind = kind_when_read slot a b some first second ∙ ap₂ (packet_kind slot) (magazine_read mag (number % 2) low high (omega arith)) joined;
      }
