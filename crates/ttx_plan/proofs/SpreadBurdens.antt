-- The burden of a place is settled by the places of the pages that come before.
use Rattle.std.proofs.Common.{◌≡◌, ℕ, zero, suc, ◌+◌, ◌*◌, ◌/◌, ◌%◌, ◌<◌, ◌≤◌, Bool, true, false, cond, eqb, ltb, ◌&&◌, List, [], ◌∷◌, ◌++◌}
use Rattle.std.proofs.Common.{length, take}
use Rattle.std.proofs.Common.{min, Option, Some, None, refl, sym, ap, ◌∙◌, subst, arith, inl, inr, get_or}
use Rattle.std.specs.Prelude.{slice_get, filter}
use Rattle.std.proofs.lemmas.Bool.{cond-true, cond-false, cases_Bool, cases_eq, cases_lt, lt-ltb, eqb-true, eq-eqb, and_parts, and_from, or_left}
use Rattle.std.proofs.lemmas.Bool.{or_right, both_ways}
use Rattle.std.proofs.lemmas.List.{length-take}
use Rattle.std.proofs.lemmas.List.Sums.{fails_before_first, passes_at_first}
use Rattle.std.proofs.lemmas.Option.{slice_get_within, get_or_from_slice_get}
use Rattle.ttx_page.specs.declared.class.Class.{Class}
use Rattle.ttx_source.specs.Services.{Authored}
use Rattle.ttx_plan.specs.Blocks.{Block, at_place, placed}
use Rattle.ttx_plan.specs.Carries.{block_at, blocks_of}
use Rattle.ttx_plan.specs.Spread.{earlier, burden_so_far}
use Rattle.ttx_plan.specs.SubpageTurns.{take_turns, first_of_turns, turn, turn_of, comes_before, is_mate_or_none, is_earlier_mate, mates_so_far}
use Rattle.ttx_plan.specs.SubpageTurns.{count_below, share_number, steps, count_of_turns}
use Rattle.ttx_plan.proofs.SubpageLists.{listed_at, takes_own_turn}
use Rattle.ttx_plan.proofs.ServicePages.{page_block, blocks_size}

-- two lists of places agree where a page takes its place before the one at an index
abbrev pub AgreeBefore : List Authored → List ℕ → List ℕ → ℕ → Authored → Type 0
AgreeBefore pages places others at p = (k : ℕ) (q : Authored) → slice_get pages k ≡ Some q → comes_before at p k q ≡ true →
    get_or places k 0 ≡ get_or others k 0

-- pages of the number

if_before : (a b c d : Bool) → (b ≡ true → c ≡ d) → ((a && b) && c) ≡ ((a && b) && d)
if_before true true c d h = h refl
if_before true false c d h = refl
if_before false b c d h = refl

mate_alike : (pages : List Authored) (places others : List ℕ) (at : ℕ) (p : Authored) (round other : ℕ) → AgreeBefore pages places others at p →
    is_earlier_mate pages places at p round other ≡ is_earlier_mate pages others at p round other
mate_alike pages places others at p round other agree = by (slice_get pages other) (agree other)
  where
    by : (o : Option Authored) → ((q : Authored) → o ≡ Some q → comes_before at p other q ≡ true → get_or places other 0 ≡ get_or others other 0) →
        is_mate_or_none at p round other (get_or places other 0) o ≡ is_mate_or_none at p round other (get_or others other 0) o
    by None h = refl
    by (Some q) h = if_before (share_number p q) (comes_before at p other q) (eqb (round % (8 / q.often)) (get_or places other 0))
        (eqb (round % (8 / q.often)) (get_or others other 0)) (λ t. ap (eqb (round % (8 / q.often))) (h q refl t))

below_alike : (n : ℕ) (f g : ℕ → Bool) → ((k : ℕ) → f k ≡ g k) → count_below n f ≡ count_below n g
below_alike zero f g same = refl
below_alike (suc n) f g same = ap (λ m. m + cond {A = ℕ} (f n) 1 0) (below_alike n f g same)
    ∙ ap (λ (b : Bool). count_below n g + cond {A = ℕ} b 1 0) (same n)

mates_alike : (pages : List Authored) (places others : List ℕ) (at : ℕ) (p : Authored) (round : ℕ) → AgreeBefore pages places others at p →
    mates_so_far pages places at p round ≡ mates_so_far pages others at p round
mates_alike pages places others at p round agree =
    below_alike (length pages) (is_earlier_mate pages places at p round) (is_earlier_mate pages others at p round)
    (λ k. mate_alike pages places others at p round k agree)

-- the turn of a page

pub first_not_after : (pages : List Authored) (at : ℕ) (p : Authored) → slice_get pages at ≡ Some p → first_of_turns pages p ≤ at
first_not_after pages at p e = elim (cases_lt at (first_of_turns pages p)) [
  | inl before ↦
      let fails = fails_before_first (take_turns p) pages at p before in
      let here : get_or pages at p ≡ p = get_or_from_slice_get pages at p p e in
      absurd (both_ways _ fails (ap (take_turns p) here ∙ takes_own_turn p))
  | inr le ↦ le
]

turn_alike : (pages : List Authored) (places others : List ℕ) (at : ℕ) (p : Authored) → slice_get pages at ≡ Some p →
    AgreeBefore pages places others at p → turn_of pages places at p ≡ turn_of pages others at p
turn_alike pages places others at p e agree = elim (cases_eq (first_of_turns pages p) at) [
  | inl same ↦
      let t = eq-eqb (first_of_turns pages p) at same in
      cond-true (eqb (first_of_turns pages p) at) None (Some (turn pages places p)) t
      ∙ sym (cond-true (eqb (first_of_turns pages p) at) None (Some (turn pages others p)) t)
  | inr apart ↦
      let le = first_not_after pages at p e in
      let lt : first_of_turns pages p < at = omega (arith, le, apart) in
      let within : first_of_turns pages p < length pages = let w = slice_get_within pages at p e in omega (arith, lt, w) in
      let q = listed_at pages (first_of_turns pages p) within in
      let passes = passes_at_first (take_turns p) pages p within in
      let here : get_or pages (first_of_turns pages p) p ≡ q.0 = get_or_from_slice_get pages (first_of_turns pages p) q.0 p q.1 in
      let takes : take_turns p q.0 ≡ true = ap (take_turns p) (sym here) ∙ passes in
      let often : eqb p.often q.0.often ≡ true = (and_parts (share_number p q.0) (eqb p.often q.0.often) takes).1 in
      let same_often : q.0.often ≡ p.often = sym (eqb-true p.often q.0.often often) in
      let before : comes_before at p (first_of_turns pages p) q.0 ≡ true =
      or_right (ltb p.often q.0.often) _ (and_from _ _ (eq-eqb q.0.often p.often same_often) (lt-ltb (first_of_turns pages p) at lt)) in
      let places_alike = agree (first_of_turns pages p) q.0 q.1 before in
      ap (λ n. cond (eqb (first_of_turns pages p) at) None
      (Some ((n + steps pages p * (8 / p.often) / count_of_turns pages p) % (8 / p.often)))) places_alike
]

-- the packets of the pages before

filter_alike : (test : Block → Bool) (xs ys : List Block) → length xs ≡ length ys →
    ((k : ℕ) (x y : Block) → slice_get xs k ≡ Some x → slice_get ys k ≡ Some y → (test x ≡ test y) × (test x ≡ true → x ≡ y)) →
    filter test xs ≡ filter test ys
filter_alike test [] [] size each = refl
filter_alike test [] (y ∷ ys) size each = absurd (omega (arith, size))
filter_alike test (x ∷ xs) [] size each = absurd (omega (arith, size))
filter_alike test (x ∷ xs) (y ∷ ys) size each =
    let here : (test x ≡ test y) × (test x ≡ true → x ≡ y) = each 0 x y refl refl in
    let shorter : length xs ≡ length ys = omega (arith, size) in
    let rest : filter test xs ≡ filter test ys = filter_alike test xs ys shorter (λ k u v e f. each (suc k) u v e f) in
    elim (cases_Bool (test x)) [
      | inl t ↦
          cond-true (test x) (x ∷ filter test xs) (filter test xs) t ∙ ap (λ z. z ∷ filter test xs) (here.1 t) ∙ ap (λ z. y ∷ z) rest
          ∙ sym (cond-true (test y) (y ∷ filter test ys) (filter test ys) (sym here.0 ∙ t))
      | inr f ↦
          cond-false (test x) (x ∷ filter test xs) (filter test xs) f ∙ rest
          ∙ sym (cond-false (test y) (y ∷ filter test ys) (filter test ys) (sym here.0 ∙ f))
    ]

get_taken : (n : ℕ) (xs : List Block) (k : ℕ) (x : Block) → slice_get (take n xs) k ≡ Some x → (k < n) × (slice_get xs k ≡ Some x)
get_taken zero xs k x e = let f : None ≡ Some x = e in cc
get_taken (suc n) [] k x e = let f : None ≡ Some x = e in cc
get_taken (suc n) (z ∷ xs) zero x e = (omega arith, e)
get_taken (suc n) (z ∷ xs) (suc k) x e = let r = get_taken n xs k x e in (omega (arith, r.0), r.1)

earlier_alike : (class : Class) (pages : List Authored) (places others : List ℕ) (at : ℕ) (p : Authored) → AgreeBefore pages places others at p →
    earlier (placed places (blocks_of class pages)) p.often at ≡ earlier (placed others (blocks_of class pages)) p.often at
earlier_alike class pages places others at p agree =
    let size : length (placed places (blocks_of class pages)) ≡ length (placed others (blocks_of class pages)) =
    blocks_size class places pages ∙ sym (blocks_size class others pages) in
    ap (λ z. z ++ filter (λ (b : Block). eqb b.often p.often) (take at (placed places (blocks_of class pages))))
    (filter_alike (λ b. ltb p.often b.often) (placed places (blocks_of class pages)) (placed others (blocks_of class pages)) size
    (λ k x y e f. alike k x y e f (λ (b : Block). ltb p.often b.often) (λ n b. refl)
    (λ q listed t. or_left (ltb p.often q.often) _ t)))
    ∙ ap (λ z. filter (λ (b : Block). ltb p.often b.often) (placed others (blocks_of class pages)) ++ z)
    (filter_alike (λ b. eqb b.often p.often) (take at (placed places (blocks_of class pages))) (take at (placed others (blocks_of class pages)))
    (length-take at (placed places (blocks_of class pages)) ∙ ap (min at) size ∙ sym (length-take at (placed others (blocks_of class pages))))
    (λ k x y e f.
    let there = get_taken at (placed places (blocks_of class pages)) k x e in
    let other = get_taken at (placed others (blocks_of class pages)) k y f in
    alike k x y there.1 other.1 (λ (b : Block). eqb b.often p.often) (λ n b. refl)
    (λ q listed t. or_right (ltb p.often q.often) _ (and_from _ _ t (lt-ltb k at there.0)))))
  where
    alike : (k : ℕ) (x y : Block) → slice_get (placed places (blocks_of class pages)) k ≡ Some x →
        slice_get (placed others (blocks_of class pages)) k ≡ Some y → (test : Block → Bool) →
        ((n : ℕ) (b : Block) → test (at_place n b) ≡ test b) →
        ((q : Authored) → slice_get pages k ≡ Some q → test (block_at class q) ≡ true → comes_before at p k q ≡ true) →
        (test x ≡ test y) × (test x ≡ true → x ≡ y)
    alike k x y e f test blind before =
        let within : k < length pages = subst (λ n. k < n) (blocks_size class places pages)
        (slice_get_within (placed places (blocks_of class pages)) k x e) in
        let q = listed_at pages k within in
        let one : Some x ≡ Some (at_place (get_or places k 0) (block_at class q.0)) = sym e ∙ page_block class places pages k q.0 q.1 in
        let two : Some y ≡ Some (at_place (get_or others k 0) (block_at class q.0)) = sym f ∙ page_block class others pages k q.0 q.1 in
        let x_is : x ≡ at_place (get_or places k 0) (block_at class q.0) = cc in
        let y_is : y ≡ at_place (get_or others k 0) (block_at class q.0) = cc in
        let test_x : test x ≡ test (block_at class q.0) = ap test x_is ∙ blind (get_or places k 0) (block_at class q.0) in
        let test_y : test y ≡ test (block_at class q.0) = ap test y_is ∙ blind (get_or others k 0) (block_at class q.0) in (
          test_x ∙ sym test_y,
          λ t. x_is ∙ ap (λ n. at_place n (block_at class q.0)) (agree k q.0 q.1 (before q.0 q.1 (sym test_x ∙ t))) ∙ sym y_is,
        )

-- the burden

pub burden_alike : (class : Class) (pages : List Authored) (places others : List ℕ) (at : ℕ) (p : Authored) (round : ℕ) →
    slice_get pages at ≡ Some p → AgreeBefore pages places others at p →
    burden_so_far class pages places at p round ≡ burden_so_far class pages others at p round
burden_alike class pages places others at p round e agree =
    rw (
      earlier_alike class pages places others at p agree,
      mates_alike pages places others at p round agree,
      turn_alike pages places others at p e agree,
    )
