-- The first of the latest of some promises.
use Rattle.std.proofs.Common.{◌≡◌, ℕ, ◌+◌, ◌<◌, ◌≤◌, Bool, true, false, not, List, length, Option, Some, None}
use Rattle.std.proofs.Common.{refl, sym, ap, subst, arith, inl, inr}
use Rattle.std.specs.Prelude.{◌&&◌, nat_lt, slice_get, MatchOption}
use Rattle.std.proofs.lemmas.Bool.{cases_lt, cases_Bool, cond-false, ltb-true}
use Rattle.std.proofs.lemmas.Option.{slice_get_past}
use Rattle.ttx_source.specs.Promises.{PromiseFields}
use Rattle.ttx_source.specs.Services.{Authored}
use Rattle.ttx_promise.specs.Lateness.{often_at, may_rise, fields_late, weight, weight_or_none, weight_at, NoneMayRise, IsLatest}

-- some test of numbers has no value above 0 at 0 to k - 1
pub record IsNoneBefore (f : ℕ → ℕ) (k most : ℕ) : Type 0 where
  pub is : most ≡ 0
  pub none : (other : ℕ) → other < k → f other ≡ 0

-- the first number below k at which a value is the greatest, and above 0
pub record IsMostBefore (f : ℕ → ℕ) (k most number : ℕ) : Type 0 where
  pub before : number < k
  pub is : most ≡ f number
  pub late : 0 < most
  pub all : (other : ℕ) → other < k → f other ≤ most
  pub first : (other : ℕ) → other < number → f other < most

abbrev pub IsSoFar : (ℕ → ℕ) → ℕ → Option ℕ → ℕ → Type 0
IsSoFar f k None most = IsNoneBefore f k most
IsSoFar f k (Some number) most = IsMostBefore f k most number

pub not_more : (f : ℕ → ℕ) (k : ℕ) (latest : Option ℕ) (most : ℕ) → f k ≤ most → IsSoFar f k latest most → IsSoFar f (k + 1) latest most
not_more f k None most le s = record {
  is = s.is;
  none = λ other lt. elim (cases_lt other k) as (λ _. f other ≡ 0) [
    | inl before ↦ s.none other before
    | inr past ↦
        let same : other ≡ k = omega (arith, lt, past) in
        let is : most ≡ 0 = s.is in
        let value : f other ≡ f k = ap f same in
        omega (arith, value, le, is)
  ];
}
not_more f k (Some number) most le s = record {
  before = let before : number < k = s.before in omega (arith, before);
  is = s.is;
  late = s.late;
  all = λ other lt. elim (cases_lt other k) as (λ _. f other ≤ most) [
    | inl before ↦ s.all other before
    | inr past ↦
        let same : other ≡ k = omega (arith, lt, past) in
        let value : f other ≡ f k = ap f same in
        omega (arith, value, le)
  ];
  first = s.first;
}

at_most : (f : ℕ → ℕ) (k : ℕ) (latest : Option ℕ) (most : ℕ) → IsSoFar f k latest most → (other : ℕ) → other < k → f other ≤ most
at_most f k None most s other lt = let none : f other ≡ 0 = s.none other lt in omega (arith, none)
at_most f k (Some number) most s other lt = s.all other lt

pub one_more : (f : ℕ → ℕ) (k : ℕ) (latest : Option ℕ) (most : ℕ) → most < f k → IsSoFar f k latest most → IsSoFar f (k + 1) (Some k) (f k)
one_more f k latest most lt s = record {
  before = omega arith;
  is = refl;
  late = omega (arith, lt);
  all = λ other within. elim (cases_lt other k) as (λ _. f other ≤ f k) [
    | inl before ↦ let le : f other ≤ most = at_most f k latest most s other before in omega (arith, le, lt)
    | inr past ↦
        let same : other ≡ k = omega (arith, within, past) in
        let value : f other ≡ f k = ap f same in
        omega (arith, value)
  ];
  first = λ other before. let le : f other ≤ most = at_most f k latest most s other before in omega (arith, le, lt);
}

past_none : (pages : List Authored) (deadlines : List ℕ) (promises : List PromiseFields) (number : ℕ) → length promises ≤ number →
    weight_at pages deadlines promises number ≡ 0
past_none pages deadlines promises number past = ap (weight_or_none pages deadlines) (slice_get_past promises number past)

promise_there : (pages : List Authored) (deadlines : List ℕ) (o : Option PromiseFields) → 0 < weight_or_none pages deadlines o →
    (promise : PromiseFields) × (o ≡ Some promise)
promise_there pages deadlines None lt = absurd (omega (arith, lt))
promise_there pages deadlines (Some promise) lt = (promise, refl)

pub all_so_far : (pages : List Authored) (deadlines : List ℕ) (promises : List PromiseFields) (n : ℕ) (latest : Option ℕ) (most : ℕ) →
    length promises ≤ n → IsSoFar (weight_at pages deadlines promises) n latest most →
    MatchOption latest (NoneMayRise pages deadlines promises) (IsLatest pages deadlines promises)
all_so_far pages deadlines promises n None most all s =
    λ number. elim (cases_lt number n) as (λ _. weight_at pages deadlines promises number ≡ 0) [
      | inl before ↦ s.none number before
      | inr past ↦ past_none pages deadlines promises number (omega (arith, all, past))
    ]
all_so_far pages deadlines promises n (Some number) most all s =
    let late : 0 < weight_at pages deadlines promises number = subst (λ m. 0 < m) s.is s.late in
    let there = promise_there pages deadlines (slice_get promises number) late in
    record {
      promise = there.0;
      at = there.1;
      late = late;
      most = λ other. elim (cases_lt other n) as (λ _. weight_at pages deadlines promises other ≤ weight_at pages deadlines promises number) [
        | inl before ↦ subst (λ m. weight_at pages deadlines promises other ≤ m) s.is (s.all other before)
        | inr past ↦
            let none : weight_at pages deadlines promises other ≡ 0 = past_none pages deadlines promises other (omega (arith, all, past)) in
            omega (arith, none)
      ];
      first = λ other before. subst (λ m. weight_at pages deadlines promises other < m) s.is (s.first other before);
    }

-- what weighs something may be sent more often
pub weighs : (pages : List Authored) (deadlines : List ℕ) (promise : PromiseFields) → 0 < weight pages deadlines promise →
    may_rise pages promise ≡ true
weighs pages deadlines promise lt = elim (cases_Bool (may_rise pages promise)) as (λ _. may_rise pages promise ≡ true) [
  | inl y ↦ y
  | inr n ↦
      let none : weight pages deadlines promise ≡ 0 = cond-false (may_rise pages promise) (fields_late deadlines promise) 0 n in
      absurd (omega (arith, lt, none))
]

left : (a b : Bool) → (a && b) ≡ true → a ≡ true
left true b e = refl
left false b e = e

right : (a b : Bool) → (a && b) ≡ true → b ≡ true
right true b e = e
right false b e = let f : false ≡ true = e in cc

no_true : (a : Bool) → not a ≡ true → a ≡ false
no_true true e = sym e
no_true false e = refl

pub is_free : (pages : List Authored) (promise : PromiseFields) → may_rise pages promise ≡ true → promise.fixed ≡ false
is_free pages promise may = no_true promise.fixed (left (not promise.fixed) (nat_lt (often_at pages promise.page) 8) may)

pub is_rare : (pages : List Authored) (promise : PromiseFields) → may_rise pages promise ≡ true → often_at pages promise.page < 8
is_rare pages promise may = ltb-true (often_at pages promise.page) 8 (right (not promise.fixed) (nat_lt (often_at pages promise.page) 8) may)

pub latest_weighs : (pages : List Authored) (deadlines : List ℕ) (promises : List PromiseFields) (number : ℕ) →
    (latest : IsLatest pages deadlines promises number) → may_rise pages latest.promise ≡ true
latest_weighs pages deadlines promises number latest =
    weighs pages deadlines latest.promise
    (subst (λ n. 0 < n) (ap (weight_or_none pages deadlines) latest.at) latest.late)
