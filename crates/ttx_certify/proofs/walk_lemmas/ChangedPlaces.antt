-- Lists of which one element is changed.
use Rattle.std.proofs.Common.{◌≡◌, ℕ, zero, suc, ◌+◌, ◌<◌, true, ◌==◌, List, [], ◌∷◌, length, set, get_or, get_or-set_same, get_or-set_other}
use Rattle.std.proofs.Common.{slice_get, Some, refl, sym, ap, subst, inl, inr, arith, eqb-true, eq-eqb}
use Rattle.std.proofs.lemmas.Bool.{cases_lt, cases_Bool}

pub set_here : {A : Type 0} (xs : List A) (at : ℕ) (v : A) → at < length xs → slice_get (set xs at v) at ≡ Some v
set_here [] at v lt = absurd (omega arith)
set_here (x ∷ xs) zero v lt = refl
set_here (x ∷ xs) (suc at) v lt = set_here xs at v (omega arith)

pub set_other : {A : Type 0} (xs : List A) (at n : ℕ) (v : A) → (n ≡ at → ⊥) → slice_get (set xs at v) n ≡ slice_get xs n
set_other [] at n v d = refl
set_other (x ∷ xs) zero zero v d = absurd (d refl)
set_other (x ∷ xs) zero (suc n) v d = refl
set_other (x ∷ xs) (suc at) zero v d = refl
set_other (x ∷ xs) (suc at) (suc n) v d = set_other xs at n v (λ e. d (ap suc e))

-- a list in which the first elements are done
pub set_below : {A : Type 0} (xs : List A) (n : ℕ) (v d : A) (Q : ℕ → A → Type 0) → n < length xs →
    ((m : ℕ) → m < n → Q m (get_or xs m d)) → Q n v → (m : ℕ) → m < n + 1 → Q m (get_or (set xs n v) m d)
set_below xs n v d Q lt done here m below = elim (cases_Bool (m == n)) as (λ _. Q m (get_or (set xs n v) m d)) [
  | inl e ↦ let q : m ≡ n = eqb-true m n e in subst (λ k. Q k (get_or (set xs n v) k d)) (sym q)
      (subst (Q n) (sym (get_or-set_same xs n v d lt)) here)
  | inr e ↦
      let d' : (m ≡ n → ⊥) = λ q. let h : (m == n) ≡ true = eq-eqb m n q in cc in
      subst (Q m) (sym (get_or-set_other xs n m v d d')) (done m (before m n below d'))
]
  where
    before : (m n : ℕ) → m < n + 1 → (m ≡ n → ⊥) → m < n
    before m n lt d = elim (cases_lt m n) as (λ _. m < n) [ inl l ↦ l | inr ge ↦ let e : m ≡ n = omega arith in absurd (d e) ]
