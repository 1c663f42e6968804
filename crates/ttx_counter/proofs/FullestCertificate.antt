-- The certificate that names the starts of all sure runs.
use Rattle.std.proofs.Common.{◌≡◌, ℕ, zero, suc, ◌+◌, ◌-◌, ◌<◌, true, false, ◌==◌, List, [], ◌∷◌, ◌++◌, length, get_or, sym}
use Rattle.std.proofs.Common.{◌∙◌, subst, inl, inr, arith, eqb-true, eq-eqb, length-append}
use Rattle.std.specs.List.{Contains, list_any}
use Rattle.std.proofs.lemmas.Bool.{cases_lt, cond_both, or_left, or_right, cases_Bool}
use Rattle.std.proofs.lemmas.List.{get_or_append_left}
use Rattle.std.proofs.Math.Seq.{get_or-append_seam}
use Rattle.std.proofs.lemmas.List.Elements.{Contains-get_or, Contains-append_left, Contains-append_right, Contains-append_cases}
use Rattle.ttx_code.proofs.Choices.{either}
use Rattle.ttx_page.specs.Streams.{run_length}
use Rattle.ttx_witness.specs.runs.Confirming.{Rising}
use Rattle.ttx_witness.specs.laws.CycleLaws.{SureStartsAreFound}
use Rattle.ttx_witness.specs.search.Finding.{starts_of}
use Rattle.ttx_counter.specs.Starving.{sorted_below}
use Rattle.ttx_counter.specs.Completeness.{FullestNamesAll}
use Rattle.ttx_counter.proofs.CoveredOrStarved.{run_some}

pub any_to : (n : ℕ) (xs : List ℕ) → list_any (λ x. x == n) xs ≡ true → Contains xs n
any_to n [] h = cc
any_to n (x ∷ xs) h = elim (cases_Bool (x == n)) as (λ _. Contains (x ∷ xs) n) [
  | inl e ↦ (0, (omega arith), eqb-true x n e)
  | inr e ↦ let c = any_to n xs (either (x == n) (list_any (λ y. y == n) xs) h e) in (suc c.0, (let lt = c.1 in omega arith), c.2)
]

pub any_from : (n : ℕ) (xs : List ℕ) (i : ℕ) → i < length xs → get_or xs i n ≡ n → list_any (λ x. x == n) xs ≡ true
any_from n [] i lt e = absurd (omega arith)
any_from n (x ∷ xs) zero lt e = or_left (x == n) _ (eq-eqb x n e)
any_from n (x ∷ xs) (suc i) lt e = or_right (x == n) _ (any_from n xs i (omega arith) e)

-- what is below n and in the list
sorted_has : (xs : List ℕ) (n a : ℕ) → Contains (sorted_below xs n) a → (a < n) × Contains xs a
unfolding sorted_below
sorted_has xs zero a c = absurd (let lt = c.1 in omega arith)
sorted_has xs (suc n) a c =
    cond_both (list_any (λ x. x == n) xs) (sorted_below xs n ++ n ∷ []) (sorted_below xs n) (λ z. Contains z a → (a < suc n) × Contains xs a)
    (λ e c. elim (Contains-append_cases (sorted_below xs n) (n ∷ []) a c) as (λ _. (a < suc n) × Contains xs a) [
      | inl d ↦ let h = sorted_has xs n a d in ((let lt = h.0 in omega arith), h.1)
      | inr d ↦ let same : n ≡ a = one n a d in ((omega arith), subst (Contains xs) same (any_to n xs e))
    ])
    (λ e c. let h = sorted_has xs n a c in ((let lt = h.0 in omega arith), h.1)) c
  where
    one : (n a : ℕ) → Contains (n ∷ []) a → n ≡ a
    one n a (zero, lt, e) = e
    one n a (suc k, lt, e) = absurd (omega arith)

sorted_from : (xs : List ℕ) (n a : ℕ) → a < n → Contains xs a → Contains (sorted_below xs n) a
unfolding sorted_below
sorted_from xs zero a lt c = absurd (omega arith)
sorted_from xs (suc n) a lt c =
    cond_both (list_any (λ x. x == n) xs) (sorted_below xs n ++ n ∷ []) (sorted_below xs n) (λ z. Contains z a)
    (λ e. elim (cases_lt a n) as (λ _. Contains (sorted_below xs n ++ n ∷ []) a) [
      | inl less ↦ Contains-append_left (sorted_below xs n) (n ∷ []) a (sorted_from xs n a less c)
      | inr ge ↦ let same : n ≡ a = omega arith in Contains-append_right (sorted_below xs n) (n ∷ []) a (0, (omega arith), same)
    ])
    (λ e. elim (cases_lt a n) as (λ _. Contains (sorted_below xs n) a) [
      | inl less ↦ sorted_from xs n a less c
      | inr ge ↦ let same : a ≡ n = omega arith in
          let h = subst (Contains xs) same c in
          absurd (let k = any_from n xs h.0 h.1 h.2 in let q : true ≡ false = sym k ∙ e in cc)
    ])

rising_more : (xs : List ℕ) (n : ℕ) → Rising xs → ((j : ℕ) → j < length xs → get_or xs j 0 < n) → Rising (xs ++ n ∷ [])
rising_more xs n rising below i j lt inside =
    let long : length (xs ++ n ∷ []) ≡ length xs + 1 = length-append xs (n ∷ []) in
    let first : i < length xs = omega arith in
    let at_i : get_or (xs ++ n ∷ []) i 0 ≡ get_or xs i 0 = get_or_append_left xs (n ∷ []) 0 i first in
    elim (cases_lt j (length xs)) as (λ _. get_or (xs ++ n ∷ []) i 0 < get_or (xs ++ n ∷ []) j 0) [
      | inl less ↦
          let at_j : get_or (xs ++ n ∷ []) j 0 ≡ get_or xs j 0 = get_or_append_left xs (n ∷ []) 0 j less in
          let up = rising i j lt less in omega arith
      | inr ge ↦
          let e : length xs ≡ j = omega arith in
          let at_j : get_or (xs ++ n ∷ []) j 0 ≡ n = subst (λ x. get_or (xs ++ n ∷ []) x 0 ≡ n) e (get_or-append_seam xs n [] 0) in
          let up = below i first in omega arith
    ]

sorted_rises : (xs : List ℕ) (n : ℕ) → Rising (sorted_below xs n)
unfolding sorted_below
sorted_rises xs zero = λ i j lt inside. absurd (omega arith)
sorted_rises xs (suc n) =
    cond_both (list_any (λ x. x == n) xs) (sorted_below xs n ++ n ∷ []) (sorted_below xs n) Rising
    (λ e. rising_more (sorted_below xs n) n (sorted_rises xs n)
    (λ j lt. (sorted_has xs n (get_or (sorted_below xs n) j 0) (Contains-get_or (sorted_below xs n) j 0 lt)).0))
    (λ e. sorted_rises xs n)

pub fullest_names_all : SureStartsAreFound → FullestNamesAll
fullest_names_all found cycle is_cycle w is = (
  record {
    some_lines = is.some_lines;
    few_lines = is.few_lines;
    some_repeats = is.some_repeats;
    few_repeats = is.few_repeats;
    some_fields = is.some_fields;
    few_fields = is.few_fields;
    rising = λ page item. sorted_rises (starts_of cycle w.lines w.repeat page item) (length cycle);
  },
  (λ p item start.
      let f = found cycle is_cycle.some p.id w.lines w.repeat item (run_length w.repeat item - 1) (run_some w.repeat item is.some_repeats) start in
      let xs = starts_of cycle w.lines w.repeat p.id item in (
        (λ c. f.0 (sorted_has xs (length cycle) start c).1),
        (λ h. sorted_from xs (length cycle) start h.0 (f.1 h)),
      )),
)
