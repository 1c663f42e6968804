-- Pages by their index, and how many of a list pass a test.
use Rattle.std.proofs.Common.{add-one}
use Rattle.std.proofs.Common.{◌≡◌, ℕ, zero, suc, ◌+◌, ◌<◌, ◌≤◌, Bool, true, false, cond, eqb, ◌&&◌, List, [], ◌∷◌, length, take, replicate}
use Rattle.std.proofs.Common.{Some, None, refl, sym, ap, ◌∙◌, arith, get_or}
use Rattle.std.specs.Prelude.{slice_get}
use Rattle.std.specs.List.{count_by, position_or_len}
use Rattle.std.proofs.lemmas.Bool.{cond-true, eq-eqb}
use Rattle.std.proofs.lemmas.List.Sums.{sum_by-cons, sum_by-append, position_or_len_is}
use Rattle.std.proofs.lemmas.Option.{slice_get_within, get_or_from_slice_get}
use Rattle.std.proofs.lemmas.List.{take_all}
use mir.Val.{bool_byte}
use Rattle.ttx_source.specs.Services.{Authored}
use Rattle.ttx_plan.specs.SubpageTurns.{count_below, take_turns}
use Rattle.ttx_plan.proofs.ServicePages.{take_next}

pub listed_at : {A : Type 0} (xs : List A) (i : ℕ) → i < length xs → (x : A) × (slice_get xs i ≡ Some x)
listed_at [] i lt = absurd (omega (arith, lt))
listed_at (x ∷ xs) zero lt = (x, refl)
listed_at (x ∷ xs) (suc i) lt = listed_at xs i (omega (arith, lt))

-- one more element
pub count_next : {A : Type 0} (test : A → Bool) (xs : List A) (i : ℕ) (x : A) → slice_get xs i ≡ Some x →
    count_by test (take (i + 1) xs) ≡ count_by test (take i xs) + cond (test x) 1 0
count_next test xs i x e =
    rw (
      add-one,
      take_next xs i x e,
      sum_by-append (λ y. cond (test y) 1 0) (take i xs) (x ∷ []),
      sum_by-cons (λ y. cond (test y) 1 0) x [],
    ) (omega arith)

pub count_all : {A : Type 0} (test : A → Bool) (xs : List A) (i : ℕ) → length xs ≤ i → count_by test (take i xs) ≡ count_by test xs
count_all test xs i le = ap (count_by test) (take_all i xs le)

-- one element at least passes
pub count_some : {A : Type 0} (test : A → Bool) (xs : List A) (i : ℕ) (x : A) → slice_get xs i ≡ Some x → test x ≡ true → 1 ≤ count_by test xs
count_some test [] i x e t = let f : None ≡ Some x = e in cc
count_some test (y ∷ xs) zero x e t =
    let f : Some y ≡ Some x = e in
    let g : y ≡ x = cc in
    let one : ◌≡◌ {A = ℕ} (cond (test y) 1 0) 1 = cond-true (test y) 1 0 (ap test g ∙ t) in
    let h = sum_by-cons (λ z. cond (test z) 1 0) y xs in
    omega (arith, one, h)
count_some test (y ∷ xs) (suc i) x e t =
    let rest : 1 ≤ count_by test xs = count_some test xs i x e t in
    let h = sum_by-cons (λ z. cond (test z) 1 0) y xs in
    omega (arith, rest, h)

pub below_next : (n : ℕ) (test : ℕ → Bool) → count_below (n + 1) test ≡ count_below n test + cond (test n) 1 0
below_next n test = let e : n + 1 ≡ suc n = omega arith in ap (λ k. count_below k test) e

-- one when a test is true
pub as_number : (n : ℕ) (b test : Bool) → n ≡ bool_byte b → b ≡ test → n ≡ cond test 1 0
as_number n b test e same = e ∙ byte_of b ∙ ap (λ (x : Bool). cond {A = ℕ} x 1 0) same
  where
    byte_of : (b : Bool) → bool_byte b ≡ cond {A = ℕ} b 1 0
    byte_of true = refl
    byte_of false = refl

-- a page takes turns with itself
pub takes_own_turn : (p : Authored) → take_turns p p ≡ true
takes_own_turn p =
    let mag = eq-eqb p.page.id.mag p.page.id.mag refl in
    let number = eq-eqb p.page.id.page p.page.id.page refl in
    let often = eq-eqb p.often p.often refl in
    ap (λ b. (b && eqb p.page.id.page p.page.id.page) && eqb p.often p.often) mag
    ∙ ap (λ b. (true && b) && eqb p.often p.often) number ∙ often

-- the first that passes, where the test fails of those before
pub first_is : (test : Authored → Bool) (pages : List Authored) (i : ℕ) (p : Authored) → slice_get pages i ≡ Some p → test p ≡ true →
    ((k : ℕ) (q : Authored) → k < i → slice_get pages k ≡ Some q → test q ≡ false) → i ≡ position_or_len test pages
first_is test pages i p e t none =
    let lt : i < length pages = slice_get_within pages i p e in
    sym (position_or_len_is test pages i p (omega (arith, lt))
    (λ k below. let q = listed_at pages k (omega (arith, lt, below)) in
    ap test (get_or_from_slice_get pages k q.0 p q.1) ∙ none k q.0 below q.1)
    (λ within. ap test (get_or_from_slice_get pages i p p e) ∙ t))

-- two elements at least pass
pub count_two : {A : Type 0} (test : A → Bool) (xs : List A) (i j : ℕ) (x y : A) → i < j → slice_get xs i ≡ Some x → slice_get xs j ≡ Some y →
    test x ≡ true → test y ≡ true → 2 ≤ count_by test xs
count_two test [] i j x y lt e f s t = let n : None ≡ Some x = e in cc
count_two test (z ∷ xs) zero zero x y lt e f s t = absurd (omega (arith, lt))
count_two test (z ∷ xs) zero (suc j) x y lt e f s t =
    let here : Some z ≡ Some x = e in
    let is : z ≡ x = cc in
    let one : ◌≡◌ {A = ℕ} (cond (test z) 1 0) 1 = cond-true (test z) 1 0 (ap test is ∙ s) in
    let rest : 1 ≤ count_by test xs = count_some test xs j y f t in
    let h = sum_by-cons (λ w. cond (test w) 1 0) z xs in
    omega (arith, one, rest, h)
count_two test (z ∷ xs) (suc i) zero x y lt e f s t = absurd (omega (arith, lt))
count_two test (z ∷ xs) (suc i) (suc j) x y lt e f s t =
    let rest : 2 ≤ count_by test xs = count_two test xs i j x y (omega (arith, lt)) e f s t in
    let h = sum_by-cons (λ w. cond (test w) 1 0) z xs in
    omega (arith, rest, h)

pub zero_each : (n round : ℕ) → ◌≡◌ {A = ℕ} (get_or {A = ℕ} (replicate n 0) round 0) 0
zero_each zero round = refl
zero_each (suc n) zero = refl
zero_each (suc n) (suc round) = zero_each n round
