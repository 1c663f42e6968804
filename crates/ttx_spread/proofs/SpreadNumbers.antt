-- Pages with one number never stand in one round while another has none.
use Rattle.std.proofs.Common.{◌≡◌, ◌≢◌, ◌⊎◌, ℕ, zero, suc, ◌+◌, ◌-◌, ◌*◌, ◌/◌, ◌%◌, ◌<◌, ◌≤◌, Bool, true, false, cond, eqb, ltb, ◌&&◌, ◌||◌}
use Rattle.std.proofs.Common.{List, length, Option, Some, None, refl, sym, ap, ◌∙◌, subst, arith, inl, inr, get_or}
use Rattle.std.specs.Prelude.{All, slice_get}
use Rattle.std.proofs.lemmas.Bool.{both_ways, cond-true, cond-false, cases_Bool, cases_eq, cases_order, lt-ltb, ltb-true, eqb-true, eq-eqb}
use Rattle.std.proofs.lemmas.Nat.{mod_below}
use Rattle.std.proofs.lemmas.Option.{slice_get_within, get_or_from_slice_get}
use Rattle.ttx_page.specs.declared.class.Class.{Class}
use Rattle.ttx_source.specs.Keys.{is_often}
use Rattle.ttx_source.specs.Services.{Authored, IsAuthored}
use Rattle.ttx_plan.specs.Blocks.{placed}
use Rattle.ttx_plan.specs.Carries.{blocks_of}
use Rattle.ttx_plan.specs.Spread.{IsSpread, burden_so_far, packets_so_far}
use Rattle.ttx_plan.specs.SubpageTurns.{share_number, comes_before, is_mate_or_none, is_earlier_mate, mates_so_far, count_below, rounds_late, turn_of}
use Rattle.ttx_spread.specs.SpreadNumbers.{StandsIn, HasPage, NumbersAreSpread}
use Rattle.ttx_spread.proofs.RoundsNest.{Often, or_cases, often_cases, period_range, rounds_nest}
use Rattle.ttx_spread.proofs.LightBlocks.{few_packets}

-- numbers that pass a test

found_or_none : (test : ℕ → Bool) (n : ℕ) → ((k : ℕ) × (k < n) × (test k ≡ true)) ⊎ ((k : ℕ) → k < n → test k ≡ false)
found_or_none test zero = inr (λ k lt. absurd (omega (arith, lt)))
found_or_none test (suc n) = elim (cases_Bool (test n)) [
  | inl t ↦ inl (n, omega arith, t)
  | inr f ↦ elim (found_or_none test n) [
    | inl there ↦ inl (there.0, omega (arith, there.1), there.2)
    | inr none ↦ inr (λ k lt. elim (cases_eq k n) [
      | inl same ↦ subst (λ j. test j ≡ false) (sym same) f
      | inr apart ↦ none k (omega (arith, lt, apart))
    ])
  ]
]

counted : (test : ℕ → Bool) (n k : ℕ) → k < n → test k ≡ true → 1 ≤ count_below n test
counted test zero k lt t = absurd (omega (arith, lt))
counted test (suc n) k lt t =
    let is : count_below (suc n) test ≡ count_below n test + cond {A = ℕ} (test n) 1 0 = refl in
    elim (cases_eq k n) [
      | inl same ↦
          let here : cond {A = ℕ} (test n) 1 0 ≡ 1 = cond-true (test n) 1 0 (subst (λ j. test j ≡ true) same t) in
          omega (arith, is, here)
      | inr apart ↦
          let before : 1 ≤ count_below n test = counted test n k (omega (arith, lt, apart)) t in
          omega (arith, is, before)
    ]

none_counted : (test : ℕ → Bool) (n : ℕ) → ((k : ℕ) → k < n → test k ≡ false) → count_below n test ≡ 0
none_counted test zero none = refl
none_counted test (suc n) none =
    let is : count_below (suc n) test ≡ count_below n test + cond {A = ℕ} (test n) 1 0 = refl in
    let here : cond {A = ℕ} (test n) 1 0 ≡ 0 = cond-false (test n) 1 0 (none n (omega arith)) in
    let before : count_below n test ≡ 0 = none_counted test n (λ k lt. none k (omega (arith, lt))) in
    omega (arith, is, here, before)

-- conjunctions

both : (a b : Bool) → (a && b) ≡ true → (a ≡ true) × (b ≡ true)
both true b t = (refl, t)
both false b t = cc

all_three : (a b c : Bool) → a ≡ true → b ≡ true → c ≡ true → ((a && b) && c) ≡ true
all_three true true true a b c = refl
all_three true true false a b c = c
all_three true false c a b t = b
all_three false b c a s t = a

not_all : (a b c : Bool) → (a ≡ true → b ≡ true → c ≡ false) → ((a && b) && c) ≡ false
not_all true true c h = h refl refl
not_all true false c h = refl
not_all false b c h = refl

-- the page at an index has a number, and is sent in a round

abbrev is_there : ℕ → ℕ → ℕ → ℕ → Option Authored → Bool
is_there mag number round place None = false
is_there mag number round place (Some s) = (eqb mag s.page.id.mag && eqb number s.page.id.page) && eqb (round % (8 / s.often)) place

abbrev there : List Authored → List ℕ → ℕ → ℕ → ℕ → ℕ → Bool
there pages places mag number round k = is_there mag number round (get_or places k 0) (slice_get pages k)

page_there : (pages : List Authored) (places : List ℕ) (p : Authored) (round k : ℕ) →
    there pages places p.page.id.mag p.page.id.page round k ≡ true → HasPage pages places p round
page_there pages places p round k t = by (slice_get pages k) refl t
  where
    by : (o : Option Authored) → slice_get pages k ≡ o → is_there p.page.id.mag p.page.id.page round (get_or places k 0) o ≡ true →
        HasPage pages places p round
    by None e t = absurd (both_ways false refl t)
    by (Some s) e t =
        let parts = both (share_number p s) (eqb (round % (8 / s.often)) (get_or places k 0)) t in
        record {
          index = k;
          page = s;
          listed = e;
          shares = parts.0;
          stands = eqb-true (round % (8 / s.often)) (get_or places k 0) parts.1;
        }

-- what takes its place before is sent as often or more often
as_often : (at k : ℕ) (p q : Authored) → comes_before at p k q ≡ true → p.often ≤ q.often
as_often at k p q t = elim (or_cases (ltb p.often q.often) (eqb q.often p.often && ltb k at) t) [
  | inl more ↦ let h : p.often < q.often = ltb-true p.often q.often more in omega (arith, h)
  | inr same ↦
      let e : q.often ≡ p.often = eqb-true q.often p.often (both (eqb q.often p.often) (ltb k at) same).0 in
      omega (arith, e)
]

comes_more : (at k : ℕ) (p q : Authored) → p.often < q.often → comes_before at p k q ≡ true
comes_more at k p q lt = by (ltb p.often q.often) (eqb q.often p.often && ltb k at) (lt-ltb p.often q.often lt)
  where
    by : (a b : Bool) → a ≡ true → (a || b) ≡ true
    by true b t = refl
    by false b t = cc

comes_first : (at k : ℕ) (p q : Authored) → q.often ≡ p.often → k < at → comes_before at p k q ≡ true
comes_first at k p q e lt =
    by (ltb p.often q.often) (eqb q.often p.often) (ltb k at) (eq-eqb q.often p.often e) (lt-ltb k at lt)
  where
    by : (a b c : Bool) → b ≡ true → c ≡ true → (a || (b && c)) ≡ true
    by true b c s t = refl
    by false true c s t = t
    by false false c s t = cc

heavier : (m l k n j i : ℕ) → 1 ≤ m → n ≡ 0 → j < 8 → i < 4294967296 → (m * 8 + l) * 4294967296 + k ≤ (n * 8 + j) * 4294967296 + i → ⊥
heavier m l k n j i some none late few le = omega (arith, some, none, late, few, le)

soon : (turn : Option ℕ) (period place : ℕ) → 0 < period → period ≤ 8 → rounds_late turn period place < 8
soon None period place some most = omega arith
soon (Some turn) period place some most =
    let h : ((place + period) - turn) % period < period = mod_below ((place + period) - turn) period some in
    omega (arith, h, most)

module _ (class : Class) (pages : List Authored) (places : List ℕ) (few : length pages ≤ 2000)
    (often : (k : ℕ) (p : Authored) → slice_get pages k ≡ Some p → Often p.often) (spread : IsSpread class pages places) where
  -- a page of the number that comes before, and is sent in the rounds of the page's place
  some_mate : (round at k : ℕ) (p q : Authored) → slice_get pages at ≡ Some p → slice_get pages k ≡ Some q → share_number p q ≡ true →
      comes_before at p k q ≡ true → StandsIn places at p round → StandsIn places k q round →
      1 ≤ mates_so_far pages places at p (get_or places at 0)
  some_mate round at k p q e f share before here there_too =
      let nest : round % (8 / p.often) % (8 / q.often) ≡ round % (8 / q.often) =
      rounds_nest round p.often q.often (often at p e) (often k q f) (as_often at k p q before) in
      let stands : get_or places at 0 % (8 / q.often) ≡ get_or places k 0 = ap (λ n. n % (8 / q.often)) (sym here) ∙ nest ∙ there_too in
      let is : is_earlier_mate pages places at p (get_or places at 0) k ≡ true =
      ap (is_mate_or_none at p (get_or places at 0) k (get_or places k 0)) f
      ∙ all_three (share_number p q) (comes_before at p k q) (eqb (get_or places at 0 % (8 / q.often)) (get_or places k 0)) share before
      (eq-eqb (get_or places at 0 % (8 / q.often)) (get_or places k 0) stands) in
      counted (is_earlier_mate pages places at p (get_or places at 0)) (length pages) k (slice_get_within pages k q f) is

  -- no page of the number is sent in a round
  no_mate : (round at : ℕ) (p : Authored) → slice_get pages at ≡ Some p →
      ((k : ℕ) → k < length pages → there pages places p.page.id.mag p.page.id.page round k ≡ false) →
      mates_so_far pages places at p (round % (8 / p.often)) ≡ 0
  no_mate round at p e none =
      none_counted (is_earlier_mate pages places at p (round % (8 / p.often))) (length pages)
      (λ k lt. by k (slice_get pages k) refl (none k lt))
    where
      by : (k : ℕ) (o : Option Authored) → slice_get pages k ≡ o →
          is_there p.page.id.mag p.page.id.page round (get_or places k 0) o ≡ false →
          is_mate_or_none at p (round % (8 / p.often)) k (get_or places k 0) o ≡ false
      by k None f t = refl
      by k (Some s) f t =
          not_all (share_number p s) (comes_before at p k s) (eqb (round % (8 / p.often) % (8 / s.often)) (get_or places k 0))
          (λ share before.
          let nest : round % (8 / p.often) % (8 / s.often) ≡ round % (8 / s.often) =
          rounds_nest round p.often s.often (often at p e) (often k s f) (as_often at k p s before) in
          ap (λ n. eqb n (get_or places k 0)) nest ∙ sym (ap (λ (b : Bool). b && eqb (round % (8 / s.often)) (get_or places k 0)) share) ∙ t)

  -- a page stands in a round with one of its number that comes before, so each round has one
  no_empty : (round each at k : ℕ) (p q : Authored) → slice_get pages at ≡ Some p → slice_get pages k ≡ Some q → share_number p q ≡ true →
      comes_before at p k q ≡ true → StandsIn places at p round → StandsIn places k q round →
      ((j : ℕ) → j < length pages → there pages places p.page.id.mag p.page.id.page each j ≡ false) → ⊥
  no_empty round each at k p q e f share before here there_too none =
      let place = get_or places at 0 in
      let other = each % (8 / p.often) in
      let range = period_range p.often (often at p e) in
      let least : burden_so_far class pages places at p place ≤ burden_so_far class pages places at p other =
      (spread at p e).least other (mod_below each (8 / p.often) range.0) in
      heavier (mates_so_far pages places at p place) (rounds_late (turn_of pages places at p) (8 / p.often) place)
      (packets_so_far (placed places (blocks_of class pages)) p.often at place) (mates_so_far pages places at p other)
      (rounds_late (turn_of pages places at p) (8 / p.often) other)
      (packets_so_far (placed places (blocks_of class pages)) p.often at other) (some_mate round at k p q e f share before here there_too)
      (no_mate each at p e none) (soon (turn_of pages places at p) (8 / p.often) other range.0 range.1)
      (few_packets class pages places p.often at other few) least

  -- of two pages one comes before the other
  spread_over : (round each at k : ℕ) (p q : Authored) → slice_get pages at ≡ Some p → slice_get pages k ≡ Some q → at ≢ k → share_number p q ≡ true →
      StandsIn places at p round → StandsIn places k q round → HasPage pages places p each
  spread_over round each at k p q e f apart share here there_too =
      elim (found_or_none (there pages places p.page.id.mag p.page.id.page each) (length pages)) [
        | inl found ↦ page_there pages places p each found.0 found.2
        | inr none ↦ absurd (by none (cases_order p.often q.often))
      ]
    where
      parts : (p.page.id.mag ≡ q.page.id.mag) × (p.page.id.page ≡ q.page.id.page)
      parts =
          let t = both (eqb p.page.id.mag q.page.id.mag) (eqb p.page.id.page q.page.id.page) share in
          (eqb-true p.page.id.mag q.page.id.mag t.0, eqb-true p.page.id.page q.page.id.page t.1)

      shared : share_number q p ≡ true
      shared =
          ap (λ (b : Bool). b && eqb q.page.id.page p.page.id.page) (eq-eqb q.page.id.mag p.page.id.mag (sym parts.0))
          ∙ eq-eqb q.page.id.page p.page.id.page (sym parts.1)

      turned : ((j : ℕ) → j < length pages → there pages places p.page.id.mag p.page.id.page each j ≡ false) →
          (j : ℕ) → j < length pages → there pages places q.page.id.mag q.page.id.page each j ≡ false
      turned none j lt = subst (λ m. there pages places m q.page.id.page each j ≡ false) parts.0
          (subst (λ n. there pages places p.page.id.mag n each j ≡ false) parts.1 (none j lt))

      by : ((j : ℕ) → j < length pages → there pages places p.page.id.mag p.page.id.page each j ≡ false) →
          (p.often ≡ q.often) ⊎ ((p.often < q.often) ⊎ (q.often < p.often)) → ⊥
      by none (inr (inl less)) = no_empty round each at k p q e f share (comes_more at k p q less) here there_too none
      by none (inr (inr more)) = no_empty round each k at q p f e shared (comes_more k at q p more) there_too here (turned none)
      by none (inl same) = elim (cases_order at k) [
        | inl equal ↦ apart equal
        | inr differ ↦ elim differ [
          | inl before ↦ no_empty round each k at q p f e shared (comes_first k at q p same before) there_too here (turned none)
          | inr after ↦ no_empty round each at k p q e f share (comes_first at k p q (sym same) after) here there_too none
        ]
      ]

often_at : (serial : Bool) (pages : List Authored) → All (IsAuthored serial) pages → (k : ℕ) (p : Authored) → slice_get pages k ≡ Some p → Often p.often
often_at serial pages all k p e =
    let there : IsAuthored serial (get_or pages k p) = all k p (slice_get_within pages k p e) in
    let is : get_or pages k p ≡ p = get_or_from_slice_get pages k p p e in
    often_cases p.often (subst (λ (q : Authored). is_often q.often ≡ true) is there.often)

pub numbers_are_spread : NumbersAreSpread
numbers_are_spread class service places is spread round index other p q e f apart share here there_too each =
    spread_over class service.pages places is.count (often_at service.serial service.pages is.pages) spread round each index other p q e f apart share
    here there_too
