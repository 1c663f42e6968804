-- The first element that passes a test, in an order given by steps.
use Rattle.std.proofs.Common.{◌≡◌, ℕ, zero, suc, ◌+◌, ◌-◌, ◌%◌, ◌<◌, ◌≤◌, Bool, true, false, cond, Some, None, refl, sym, ap, ◌∙◌, subst, arith, inl}
use Rattle.std.proofs.Common.{inr, mod-lt, lit<}
use Rattle.std.specs.List.{find}
use Rattle.std.proofs.lemmas.Bool.{cond-true, cond-false, cases_Bool}
use Rattle.ttx_plan.specs.Turns.{steps, order}

find_step : (p : ℕ → Bool) (f : ℕ → ℕ) (s n i : ℕ) → i < n → ((k : ℕ) → k < i → p (f (s + k)) ≡ false) → p (f (s + i)) ≡ true →
    find p (steps f s n) ≡ Some (f (s + i))
find_step p f s zero i h none here = absurd (omega arith)
find_step p f s (suc n) zero h none here =
    let e : s ≡ s + 0 = omega arith in
    cond-true (p (f s)) _ _ (ap (λ x. p (f x)) e ∙ here) ∙ ap (λ x. Some (f x)) e
find_step p f s (suc n) (suc i) h none here =
    let e : s ≡ s + 0 = omega arith in
    let j : suc s + i ≡ s + suc i = omega arith in
    let first : p (f s) ≡ false = ap (λ x. p (f x)) e ∙ none 0 (omega arith) in
    let later : find p (steps f (suc s) n) ≡ Some (f (suc s + i)) = find_step p f (suc s) n i (omega arith)
    (λ k lt. let q : suc s + k ≡ s + suc k = omega arith in ap (λ x. p (f x)) q ∙ none (suc k) (omega arith))
    (ap (λ x. p (f x)) j ∙ here) in
    cond-false (p (f s)) _ _ first ∙ later ∙ ap (λ x. Some (f x)) j

pub find_order : (p : ℕ → Bool) (from i : ℕ) → i < 8 → ((k : ℕ) → k < i → p ((from + k) % 8) ≡ false) → p ((from + i) % 8) ≡ true →
    find p (order from) ≡ Some ((from + i) % 8)
find_order p from i h none here =
    let e : (k : ℕ) → 0 + k ≡ k = λ k. omega arith in
    find_step p (λ k. (from + k) % 8) 0 8 i h (λ k lt. ap (λ x. p ((from + x) % 8)) (e k) ∙ none k lt)
    (ap (λ x. p ((from + x) % 8)) (e i) ∙ here) ∙ ap (λ x. Some ((from + x) % 8)) (e i)

find_same : (p q : ℕ → Bool) (f : ℕ → ℕ) (s n : ℕ) → ((k : ℕ) → p (f k) ≡ q (f k)) → find p (steps f s n) ≡ find q (steps f s n)
find_same p q f s zero h = refl
find_same p q f s (suc n) h = ap (λ b. cond b (Some (f s)) (find p (steps f (suc s) n))) (h s)
    ∙ ap (λ r. cond (q (f s)) (Some (f s)) r) (find_same p q f (suc s) n h)

-- two tests that agree on the magazines find the same one
pub order_same : (p q : ℕ → Bool) (from : ℕ) → ((m : ℕ) → m < 8 → p m ≡ q m) → find p (order from) ≡ find q (order from)
order_same p q from h = find_same p q (λ k. (from + k) % 8) 0 8 (λ k. h ((from + k) % 8) (mod-lt (from + k) (lit< tt)))

none_of : (p : ℕ → Bool) (f : ℕ → ℕ) (s n : ℕ) → find p (steps f s n) ≡ None → (k : ℕ) → k < n → p (f (s + k)) ≡ false
none_of p f s zero none k lt = absurd (omega arith)
none_of p f s (suc n) none k lt = elim (cases_Bool (p (f s))) as (λ _. p (f (s + k)) ≡ false) [
  | inl y ↦ let e : Some (f s) ≡ None = sym (cond-true (p (f s)) _ _ y) ∙ none in cc
  | inr y ↦ at k lt y (λ j. none_of p f (suc s) n (sym (cond-false (p (f s)) _ _ y) ∙ none) j)
]
  where
    at : (k : ℕ) → k < suc n → p (f s) ≡ false → ((j : ℕ) → j < n → p (f (suc s + j)) ≡ false) → p (f (s + k)) ≡ false
    at zero lt y later = let e : s + 0 ≡ s = omega arith in ap (λ x. p (f x)) e ∙ y
    at (suc k) lt y later = let e : s + suc k ≡ suc s + k = omega arith in ap (λ x. p (f x)) e ∙ later k (omega arith)

-- if none is found, none of the eight passes
pub none_ready : (p : ℕ → Bool) (from : ℕ) → from ≤ 8 → find p (order from) ≡ None → (m : ℕ) → m < 8 → p m ≡ false
none_ready p from h none m lt =
    let k = (m + 16 - from) % 8 in
    let small : k < 8 = omega arith in
    let e : (from + (0 + k)) % 8 ≡ m = omega arith in
    ap p (sym e) ∙ none_of p (λ k. (from + k) % 8) 0 8 none k small

found_of : (p : ℕ → Bool) (f : ℕ → ℕ) (s n m : ℕ) → find p (steps f s n) ≡ Some m → (p m ≡ true) × ((k : ℕ) × (m ≡ f k))
found_of p f s zero m found = let e : None ≡ Some m = found in cc
found_of p f s (suc n) m found = elim (cases_Bool (p (f s))) as (λ _. (p m ≡ true) × ((k : ℕ) × (m ≡ f k))) [
  | inl y ↦ let e : Some (f s) ≡ Some m = sym (cond-true (p (f s)) _ _ y) ∙ found in let g : f s ≡ m = cc in (ap p (sym g) ∙ y, (s, sym g))
  | inr y ↦ found_of p f (suc s) n m (sym (cond-false (p (f s)) _ _ y) ∙ found)
]

pub found_ready : (p : ℕ → Bool) (from m : ℕ) → find p (order from) ≡ Some m → (p m ≡ true) × (m < 8)
found_ready p from m found =
    let r = found_of p (λ k. (from + k) % 8) 0 8 m found in
    (r.0, subst (λ x. x < 8) (sym r.1.1) (mod-lt (from + r.1.0) (lit< tt)))
