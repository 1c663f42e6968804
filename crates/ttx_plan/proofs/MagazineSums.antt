-- Sums over the magazines.
use Rattle.std.proofs.Common.{◌≡◌, ◌≢◌, ℕ, zero, suc, ◌+◌, ◌<◌, ◌≤◌, List, [], ◌∷◌, length, drop, Some, None, refl, sym, ap, ◌∙◌, arith, inl, inr}
use Rattle.std.specs.Prelude.{slice_get}
use Rattle.std.proofs.lemmas.Bool.{cases_eq, cases_lt}
use Rattle.ttx_plan.specs.Counting.{sum_to}

pub sum_same : (f g : ℕ → ℕ) (n : ℕ) → ((m : ℕ) → m < n → f m ≡ g m) → sum_to n f ≡ sum_to n g
sum_same f g zero h = refl
sum_same f g (suc n) h = omega (arith, sum_same f g n (λ m lt. h m (omega arith)), h n (omega arith))

pub sum_le : (f g : ℕ → ℕ) (n : ℕ) → ((m : ℕ) → m < n → f m ≤ g m) → sum_to n f ≤ sum_to n g
sum_le f g zero h = omega arith
sum_le f g (suc n) h = omega (arith, sum_le f g n (λ m lt. h m (omega arith)), h n (omega arith))

-- one of them has w less
pub sum_less : (f g : ℕ → ℕ) (w n queue : ℕ) → queue < n → f queue ≡ w + g queue → ((m : ℕ) → m ≢ queue → f m ≡ g m) → sum_to n f ≡ w + sum_to n g
sum_less f g w zero queue lt here others = absurd (omega arith)
sum_less f g w (suc n) queue lt here others = elim (cases_eq n queue) as (λ _. sum_to n f + f n ≡ w + (sum_to n g + g n)) [
  | inl e ↦
      let a : sum_to n f ≡ sum_to n g = sum_same f g n (λ m h. others m (λ q. absurd (omega arith))) in
      let b : f n ≡ w + g n = ap f e ∙ here ∙ ap (λ x. w + g x) (sym e) in
      omega arith
  | inr ne ↦ omega (arith, sum_less f g w n queue (omega (arith, lt, ne)) here others, others n ne)
]

pub sum_some : (f : ℕ → ℕ) (n : ℕ) → 0 < sum_to n f → (m : ℕ) × (m < n) × (0 < f m)
sum_some f zero h = absurd (omega arith)
sum_some f (suc n) h = elim (cases_lt 0 (f n)) as (λ _. (m : ℕ) × (m < suc n) × (0 < f m)) [
  | inl k ↦ (n, omega arith, k)
  | inr k ↦ let r = sum_some f n (omega arith) in (r.0, omega (arith, r.1), r.2)
]

pub sum_none : (f : ℕ → ℕ) (n : ℕ) → sum_to n f ≡ 0 → (m : ℕ) → m < n → f m ≡ 0
sum_none f zero h m lt = absurd (omega arith)
sum_none f (suc n) h m lt = elim (cases_eq m n) as (λ _. f m ≡ 0) [
  | inl e ↦ let a : f n ≡ 0 = omega arith in ap f e ∙ a
  | inr ne ↦ sum_none f n (omega arith) m (omega (arith, lt, ne))
]

-- an element by its place, and the rest from there on
pub drop_next : {A : Type 0} (xs : List A) (n : ℕ) (x : A) → slice_get xs n ≡ Some x → drop n xs ≡ x ∷ drop (suc n) xs
drop_next [] n x h = let e : None ≡ Some x = h in cc
drop_next (y ∷ ys) zero x h = let e : Some y ≡ Some x = h in let g : y ≡ x = cc in ap (λ z. z ∷ ys) g
drop_next (y ∷ ys) (suc n) x h = drop_next ys n x h

pub get_left : {A : Type 0} (xs : List A) (n : ℕ) → 0 < length (drop n xs) → (x : A) × (slice_get xs n ≡ Some x)
get_left [] zero h = absurd (omega arith)
get_left [] (suc n) h = absurd (omega arith)
get_left (y ∷ ys) zero h = (y, refl)
get_left (y ∷ ys) (suc n) h = get_left ys n h
