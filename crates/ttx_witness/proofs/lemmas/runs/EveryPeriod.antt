-- What holds in one period, and is kept by a step of one period either way, holds everywhere.
use Rattle.std.proofs.Common.{◌≡◌, ℕ, zero, suc, ◌≤◌, ℤ, pos, ◌+ℤ◌, ◌-ℤ◌, ◌<ℤ◌, ◌≤ℤ◌, nat_abs, subst, inl, inr, arith}
use Rattle.std.proofs.lemmas.Int.{ints}
use Rattle.ttx_page.proofs.SlotDistances.{cases_ltz}

module _ (n : ℕ) (some : 1 ≤ n) (Q : ℤ → Type 0) (base : (i : ℤ) → pos 0 ≤ℤ i → i <ℤ pos n → Q i)
    (up : (i : ℤ) → Q i → Q (i +ℤ pos n)) (down : (i : ℤ) → Q i → Q (i -ℤ pos n)) where
  from_zero : (fuel : ℕ) (i : ℤ) → pos 0 ≤ℤ i → i <ℤ pos fuel → Q i
  from_zero zero i a b = absurd (omega (arith, ints))
  from_zero (suc fuel) i a b = elim (cases_ltz i (pos n)) as (λ _. Q i) [
    | inl lt ↦ base i a lt
    | inr ge ↦ let e : (i -ℤ pos n) +ℤ pos n ≡ i = omega (arith, ints)
        in subst Q e (up (i -ℤ pos n) (from_zero fuel (i -ℤ pos n) (omega (arith, ints)) (omega (arith, ints))))
  ]

  below_zero : (fuel : ℕ) (i : ℤ) → pos 0 ≤ℤ (i +ℤ pos fuel) → Q i
  below_zero zero i a = from_zero (suc (nat_abs i)) i (omega (arith, ints)) (omega (arith, ints))
  below_zero (suc fuel) i a = elim (cases_ltz i (pos 0)) as (λ _. Q i) [
    | inl lt ↦ let e : (i +ℤ pos n) -ℤ pos n ≡ i = omega (arith, ints)
        in subst Q e (down (i +ℤ pos n) (below_zero fuel (i +ℤ pos n) (omega (arith, ints))))
    | inr ge ↦ from_zero (suc (nat_abs i)) i ge (omega (arith, ints))
  ]

  pub everywhere : (i : ℤ) → Q i
  everywhere i = below_zero (nat_abs i) i (omega (arith, ints))
