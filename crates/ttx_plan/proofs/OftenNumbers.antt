-- How often a page is sent: 1, 2, 4 or 8 times in eight rounds.
use Rattle.std.proofs.Common.{◌≡◌, ◌⊎◌, ℕ, zero, suc, ◌/◌, ◌%◌, ◌<◌, ◌≤◌, Bool, true, false, ◌||◌, eqb, refl, sym, subst, inl, inr, arith}
use Rattle.std.proofs.lemmas.Bool.{eqb-true}
use Rattle.ttx_source.specs.Keys.{is_often}
use Rattle.ttx_plan.specs.Ranges.{IsOften}

-- what holds for these holds for each
pub by_often : (P : ℕ → Type 0) → P 1 → P 2 → P 4 → P 8 → (n : ℕ) → IsOften n → P n
by_often P a b c d zero o = absurd (omega (arith, o.some))
by_often P a b c d (suc zero) o = a
by_often P a b c d (suc (suc zero)) o = b
by_often P a b c d (suc (suc (suc zero))) o = let e : 2 ≡ 0 = o.divides in absurd (omega (arith, e))
by_often P a b c d (suc (suc (suc (suc zero)))) o = c
by_often P a b c d (suc (suc (suc (suc (suc zero))))) o = let e : 3 ≡ 0 = o.divides in absurd (omega (arith, e))
by_often P a b c d (suc (suc (suc (suc (suc (suc zero)))))) o = let e : 2 ≡ 0 = o.divides in absurd (omega (arith, e))
by_often P a b c d (suc (suc (suc (suc (suc (suc (suc zero))))))) o = let e : 1 ≡ 0 = o.divides in absurd (omega (arith, e))
by_often P a b c d (suc (suc (suc (suc (suc (suc (suc (suc zero)))))))) o = d
by_often P a b c d (suc (suc (suc (suc (suc (suc (suc (suc (suc n))))))))) o = absurd (omega (arith, o.most))

or_then : {P : Type 0} (a b : Bool) → (a ≡ true → P) → (b ≡ true → P) → (a || b) ≡ true → P
or_then true b f g e = f refl
or_then false b f g e = g e

pub often_ranges : (n : ℕ) → is_often n ≡ true → IsOften n
often_ranges n =
    or_then ((eqb n 1 || eqb n 2) || eqb n 4) (eqb n 8) (or_then (eqb n 1 || eqb n 2) (eqb n 4) (or_then (eqb n 1) (eqb n 2)
    (same 1 (omega arith) (omega arith) refl) (same 2 (omega arith) (omega arith) refl)) (same 4 (omega arith) (omega arith) refl))
    (same 8 (omega arith) (omega arith) refl)
  where
    same : (m : ℕ) → 1 ≤ m → m ≤ 8 → 8 % m ≡ 0 → eqb n m ≡ true → IsOften n
    same m some most divides e = subst IsOften (sym (eqb-true n m e)) (record { some = some; most = most; divides = divides })

-- what is sent less often is sent at most half as often
pub at_most_half : (n m : ℕ) → IsOften n → IsOften m → m < n → m ≤ n / 2
at_most_half n m o p = by_often (λ k. m < k → m ≤ k / 2) (λ lt. absurd (omega (arith, lt, p.some))) (λ lt. omega (arith, lt))
    (by_often (λ k. k < 4 → k ≤ 2) (λ lt. omega arith) (λ lt. omega arith) (λ lt. absurd (omega (arith, lt))) (λ lt. absurd (omega (arith, lt))) m p)
    (by_often (λ k. k < 8 → k ≤ 4) (λ lt. omega arith) (λ lt. omega arith) (λ lt. omega arith) (λ lt. absurd (omega (arith, lt))) m p) n o

-- the next pass: half as often, or the last one
pub half_again : (n : ℕ) → IsOften n → (n / 2 ≡ 0) ⊎ IsOften (n / 2)
half_again = by_often (λ n. (n / 2 ≡ 0) ⊎ IsOften (n / 2)) (inl refl)
    (inr (often_ranges 1 refl)) (inr (often_ranges 2 refl)) (inr (often_ranges 4 refl))

-- the number of rounds from which a page takes its place
pub period_range : (n : ℕ) → IsOften n → (1 ≤ 8 / n) × (8 / n ≤ 8)
period_range = by_often (λ n. (1 ≤ 8 / n) × (8 / n ≤ 8)) (omega arith, omega arith) (omega arith, omega arith) (omega arith, omega arith)
    (omega arith, omega arith)
