-- Magazines, where 8 is written as 0, and the difference (XOR) of two.
use Rattle.std.proofs.Common.{◌≡◌, ℕ, ◌<◌, ◌≤◌, ◌%◌, ◌==◌, true, false, refl, arith, bit_xor, ltb, eqb, inl, inr, eqb-true}
use Rattle.std.proofs.lemmas.Bool.{agree_below, agree_below_at, ltb-true, cases_Bool}
use Rattle.std.proofs.lemmas.Bool.Decides.{nat_tests}
use Rattle.ttx_packet.specs.Slots.{magazine}

small : agree_below (λ a. agree_below (λ b. ltb (bit_xor a b) 8) (λ _. true) 8) (λ _. true) 8 ≡ true
small = refl

-- the difference of two magazines has three bits
pub xor_below_8 : (a b : ℕ) → a < 8 → b < 8 → bit_xor a b < 8
xor_below_8 a b p q =
    ltb-true _ _ (agree_below_at (λ b. ltb (bit_xor a b) 8) (λ _. true) 8 b
    (agree_below_at (λ a. agree_below (λ b. ltb (bit_xor a b) 8) (λ _. true) 8) (λ _. true) 8 a small p) q)

twice : agree_below (λ a. agree_below (λ b. eqb (bit_xor a (bit_xor a b)) b) (λ _. true) 8) (λ _. true) 8 ≡ true
twice = refl

-- the difference from one magazine gives the other back
pub xor_back : (a b : ℕ) → a < 8 → b < 8 → bit_xor a (bit_xor a b) ≡ b
xor_back a b p q =
    eqb-true _ _ (agree_below_at (λ b. eqb (bit_xor a (bit_xor a b)) b) (λ _. true) 8 b
    (agree_below_at (λ a. agree_below (λ b. eqb (bit_xor a (bit_xor a b)) b) (λ _. true) 8) (λ _. true) 8 a twice p) q)

pub magazine_back : (mag : ℕ) → 1 ≤ mag → mag ≤ 8 → magazine (mag % 8) ≡ mag
magazine_back mag from to =
    elim (cases_Bool (mag % 8 % 8 == 0)) as (λ _. magazine (mag % 8) ≡ mag) [
      | inl z ↦ let zero : mag % 8 % 8 ≡ 0 = eqb-true _ 0 z in rw z (omega arith)
      | inr z ↦ rw z (let some : 1 ≤ mag % 8 % 8 = positive z in omega arith)
    ]
  where
    positive : (mag % 8 % 8 == 0) ≡ false → 1 ≤ mag % 8 % 8
    positive z = grind (arith, nat_tests)

pub magazine_again : (low : ℕ) → low < 8 → magazine low % 8 ≡ low
magazine_again low l =
    elim (cases_Bool (low % 8 == 0)) as (λ _. magazine low % 8 ≡ low) [
      | inl z ↦ let zero : low % 8 ≡ 0 = eqb-true _ 0 z in rw z (omega (arith, zero, l))
      | inr z ↦ rw z (omega (arith, l))
    ]

-- a magazine is 1 to 8
pub magazine_from : (low : ℕ) → 1 ≤ magazine low
magazine_from low =
    elim (cases_Bool (low % 8 == 0)) as (λ _. 1 ≤ magazine low) [
      | inl z ↦ rw z (omega arith)
      | inr z ↦ rw z (let some : 1 ≤ low % 8 = positive z in some)
    ]
  where
    positive : (low % 8 == 0) ≡ false → 1 ≤ low % 8
    positive z = grind (arith, nat_tests)

pub magazine_to : (low : ℕ) → magazine low ≤ 8
magazine_to low =
    elim (cases_Bool (low % 8 == 0)) as (λ _. magazine low ≤ 8) [
      | inl z ↦ rw z (omega arith)
      | inr z ↦ rw z (omega arith)
    ]
