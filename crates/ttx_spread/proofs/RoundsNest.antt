-- The rounds of a page that is sent more often hold those of one that is sent less often.
use Rattle.std.proofs.Common.{◌≡◌, ◌⊎◌, ℕ, ◌/◌, ◌%◌, ◌<◌, ◌≤◌, Bool, true, false, eqb, ◌||◌, refl, sym, ap, subst, arith, inl, inr}
use Rattle.std.proofs.lemmas.Bool.{eqb-true}
use Rattle.std.proofs.Math.Nat.{mod-mod, mod-mod_of_dvd, dvd-mul_left}
use Rattle.ttx_source.specs.Keys.{is_often}

abbrev pub Often : ℕ → Type 0
Often n = ((n ≡ 1) ⊎ (n ≡ 2)) ⊎ ((n ≡ 4) ⊎ (n ≡ 8))

pub or_cases : (a b : Bool) → (a || b) ≡ true → (a ≡ true) ⊎ (b ≡ true)
or_cases true b t = inl refl
or_cases false b t = inr t

pub often_cases : (n : ℕ) → is_often n ≡ true → Often n
often_cases n t = elim (or_cases ((eqb n 1 || eqb n 2) || eqb n 4) (eqb n 8) t) [
  | inr eight ↦ inr (inr (eqb-true n 8 eight))
  | inl rest ↦ elim (or_cases (eqb n 1 || eqb n 2) (eqb n 4) rest) [
    | inr four ↦ inr (inl (eqb-true n 4 four))
    | inl less ↦ elim (or_cases (eqb n 1) (eqb n 2) less) [
      | inl one ↦ inl (inl (eqb-true n 1 one))
      | inr two ↦ inl (inr (eqb-true n 2 two))
    ]
  ]
]

-- how many rounds there are from one that a page is sent in to the next
pub period_range : (n : ℕ) → Often n → (0 < 8 / n) × (8 / n ≤ 8)
period_range n (inl (inl e)) = let h : 8 / n ≡ 8 = ap (λ m. 8 / m) e in (omega (arith, h), omega (arith, h))
period_range n (inl (inr e)) = let h : 8 / n ≡ 4 = ap (λ m. 8 / m) e in (omega (arith, h), omega (arith, h))
period_range n (inr (inl e)) = let h : 8 / n ≡ 2 = ap (λ m. 8 / m) e in (omega (arith, h), omega (arith, h))
period_range n (inr (inr e)) = let h : 8 / n ≡ 1 = ap (λ m. 8 / m) e in (omega (arith, h), omega (arith, h))

pub rounds_nest : (r n m : ℕ) → Often n → Often m → n ≤ m → r % (8 / n) % (8 / m) ≡ r % (8 / m)
rounds_nest r n m o p le = by o p
  where
    at : (k l : ℕ) → n ≡ k → m ≡ l → r % (8 / k) % (8 / l) ≡ r % (8 / l) → r % (8 / n) % (8 / m) ≡ r % (8 / m)
    at k l e f h = subst (λ x. r % (8 / x) % (8 / m) ≡ r % (8 / m)) (sym e) (subst (λ y. r % (8 / k) % (8 / y) ≡ r % (8 / y)) (sym f) h)

    by : Often n → Often m → r % (8 / n) % (8 / m) ≡ r % (8 / m)
    by (inl (inl e)) (inl (inl f)) = at 1 1 e f (mod-mod r 8)
    by (inl (inl e)) (inl (inr f)) = at 1 2 e f (mod-mod_of_dvd 4 r (dvd-mul_left 4 2))
    by (inl (inl e)) (inr (inl f)) = at 1 4 e f (mod-mod_of_dvd 2 r (dvd-mul_left 2 4))
    by (inl (inl e)) (inr (inr f)) = at 1 8 e f (mod-mod_of_dvd 1 r (dvd-mul_left 1 8))
    by (inl (inr e)) (inl (inl f)) = absurd (omega (arith, le, e, f))
    by (inl (inr e)) (inl (inr f)) = at 2 2 e f (mod-mod r 4)
    by (inl (inr e)) (inr (inl f)) = at 2 4 e f (mod-mod_of_dvd 2 r (dvd-mul_left 2 2))
    by (inl (inr e)) (inr (inr f)) = at 2 8 e f (mod-mod_of_dvd 1 r (dvd-mul_left 1 4))
    by (inr (inl e)) (inl (inl f)) = absurd (omega (arith, le, e, f))
    by (inr (inl e)) (inl (inr f)) = absurd (omega (arith, le, e, f))
    by (inr (inl e)) (inr (inl f)) = at 4 4 e f (mod-mod r 2)
    by (inr (inl e)) (inr (inr f)) = at 4 8 e f (mod-mod_of_dvd 1 r (dvd-mul_left 1 2))
    by (inr (inr e)) (inl (inl f)) = absurd (omega (arith, le, e, f))
    by (inr (inr e)) (inl (inr f)) = absurd (omega (arith, le, e, f))
    by (inr (inr e)) (inr (inl f)) = absurd (omega (arith, le, e, f))
    by (inr (inr e)) (inr (inr f)) = at 8 8 e f (mod-mod r 1)
