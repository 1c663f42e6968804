-- All blocks that are sent `often` times have their places; those that are sent half as often come next.
use Rattle.std.proofs.Common.{◌≡◌, ℕ, ◌+◌, ◌/◌, ◌%◌, ◌<◌, ◌≤◌, Bool, false, cond, eqb, ltb, List, [], ◌∷◌, ◌++◌, length, take}
use Rattle.std.proofs.Common.{Some, refl, sym, ap, ◌∙◌, subst, arith, inl, inr, replicate}
use Rattle.std.specs.Prelude.{slice_get, filter, sum_by}
use Rattle.std.specs.List.{AllByRecursion}
use Rattle.std.proofs.lemmas.Bool.{cond-false, cases_order, eq-eqb, ne_eqb, lt-ltb, le-ltb}
use Rattle.std.proofs.lemmas.List.{take_all, get_or-replicate}
use Rattle.std.proofs.lemmas.List.Sums.{sum_by-cons, sum_by-append}
use Rattle.std.proofs.lemmas.Option.{slice_get_within}
use Rattle.ttx_page.specs.declared.class.Class.{Class}
use Rattle.ttx_source.specs.Services.{Authored}
use Rattle.ttx_plan.specs.Blocks.{Block, round_of, packets_in}
use Rattle.ttx_plan.specs.Ranges.{IsOften}
use Rattle.ttx_plan.specs.Spread.{earlier, packets_so_far, IsSpread}
use Rattle.ttx_plan.specs.Spreading.{IsSpreadTo, AreCounted}
use Rattle.ttx_plan.proofs.OftenNumbers.{at_most_half}
use Rattle.ttx_plan.proofs.RepeatedBlocks.{sum_filter}
use Rattle.ttx_plan.proofs.SpreadPlaces.{weight}

-- sums over the elements that pass a test

abbrev pub IsOftenBlock : Block → Type 0
IsOftenBlock block = IsOften block.often

abbrev weighed : ℕ → Block → ℕ
weighed round block = cond (eqb (round % (8 / block.often)) block.place) (weight block) 0

-- where each element passes the first test as often as the other two together
sum_split : (f : Block → ℕ) (p q s : Block → Bool) (xs : List Block) →
    AllByRecursion (λ b. cond (p b) (f b) 0 ≡ cond (q b) (f b) 0 + cond (s b) (f b) 0) xs →
    sum_by f (filter p xs) ≡ sum_by f (filter q xs) + sum_by f (filter s xs)
sum_split f p q s xs a =
    sum_filter f p xs ∙ parts xs a ∙ ap (λ n. n + sum_by (λ b. cond (s b) (f b) 0) xs) (sym (sum_filter f q xs))
    ∙ ap (λ n. sum_by f (filter q xs) + n) (sym (sum_filter f s xs))
  where
    parts : (ys : List Block) → AllByRecursion (λ b. cond (p b) (f b) 0 ≡ cond (q b) (f b) 0 + cond (s b) (f b) 0) ys →
        sum_by (λ b. cond (p b) (f b) 0) ys ≡ sum_by (λ b. cond (q b) (f b) 0) ys + sum_by (λ b. cond (s b) (f b) 0) ys
    parts [] a = refl
    parts (y ∷ ys) a =
        let h : sum_by (λ b. cond (p b) (f b) 0) ys ≡ sum_by (λ b. cond (q b) (f b) 0) ys + sum_by (λ b. cond (s b) (f b) 0) ys = parts ys a.1 in
        let here : cond (p y) (f y) 0 ≡ cond (q y) (f y) 0 + cond (s y) (f y) 0 = a.0 in
        omega (
          arith,
          h,
          here,
          sum_by-cons (λ b. cond (p b) (f b) 0) y ys,
          sum_by-cons (λ b. cond (q b) (f b) 0) y ys,
          sum_by-cons (λ b. cond (s b) (f b) 0) y ys,
        )

-- sent more often than half of `often`: more often than `often`, or `often` times
split_here : (often n w : ℕ) → IsOften often → IsOften n →
    cond (ltb (often / 2) n) w 0 ≡ cond (ltb often n) w 0 + cond (eqb n often) w 0
split_here often n w o p = elim (cases_order often n) [
  | inl same ↦
      rw (lt-ltb (often / 2) n (omega (arith, same, o.some)), le-ltb often n (omega (arith, same)), eq-eqb n often (sym same)) (omega arith)
  | inr apart ↦ elim apart [
    | inl more ↦
        let other : eqb n often ≡ false = ne_eqb n often (λ (e : n ≡ often). omega (arith, e, more)) in
        rw (lt-ltb (often / 2) n (omega (arith, more)), lt-ltb often n more, other) (omega arith)
    | inr less ↦
        let other : eqb n often ≡ false = ne_eqb n often (λ (e : n ≡ often). omega (arith, e, less)) in
        rw (le-ltb (often / 2) n (at_most_half often n o p less), le-ltb often n (omega (arith, less)), other)
  ]
]

all_split : (round often : ℕ) (blocks : List Block) → IsOften often → AllByRecursion IsOftenBlock blocks →
    AllByRecursion (λ (b : Block). cond (ltb (often / 2) b.often) (weighed round b) 0
    ≡ cond (ltb often b.often) (weighed round b) 0 + cond (eqb b.often often) (weighed round b) 0) blocks
all_split round often [] o a = tt
all_split round often (b ∷ blocks) o a = (split_here often b.often (weighed round b) o a.0, all_split round often blocks o a.1)

-- the packets of a round as sums
counted_in : (blocks : List Block) (often n round : ℕ) → packets_so_far blocks often n round
    ≡ sum_by (weighed round) (filter (λ b. ltb often b.often) blocks) + sum_by (weighed round) (filter (λ b. eqb b.often often) (take n blocks))
counted_in blocks often n round =
    sum_filter weight (λ b. eqb (round % (8 / b.often)) b.place) (earlier blocks often n)
    ∙ sum_by-append (weighed round) (filter (λ b. ltb often b.often) blocks) (filter (λ b. eqb b.often often) (take n blocks))

-- the passes

pub counted_pass : (packets : List ℕ) (blocks : List Block) (often n : ℕ) → IsOften often → AllByRecursion IsOftenBlock blocks → length blocks ≡ n →
    AreCounted packets blocks often n → AreCounted packets blocks (often / 2) 0
counted_pass packets blocks often n o a size counted = record {
  eight = counted.eight;
  each = λ round lt.
      let whole : take n blocks ≡ blocks = take_all n blocks (omega (arith, size)) in
      let split = sum_split (weighed round) (λ b. ltb (often / 2) b.often) (λ b. ltb often b.often) (λ b. eqb b.often often) blocks
      (all_split round often blocks o a) in
      let none : sum_by (weighed round) (filter (λ b. ltb (often / 2) b.often) blocks) + 0
      ≡ sum_by (weighed round) (filter (λ b. ltb (often / 2) b.often) blocks) = omega arith in
      counted.each round lt ∙ counted_in blocks often n round
      ∙ ap (λ xs. sum_by (weighed round) (filter (λ b. ltb often b.often) blocks) + sum_by (weighed round) (filter (λ b. eqb b.often often) xs)) whole
      ∙ sym split ∙ sym none ∙ sym (counted_in blocks (often / 2) 0 round);
}

-- each page is sent 1, 2, 4 or 8 times
abbrev pub AreOften : List Authored → Type 0
AreOften pages = (k : ℕ) (p : Authored) → slice_get pages k ≡ Some p → IsOften p.often

pub spread_pass : (class : Class) (pages : List Authored) (places : List ℕ) (often n : ℕ) → IsOften often → AreOften pages → length pages ≡ n →
    IsSpreadTo class pages places often n → IsSpreadTo class pages places (often / 2) 0
spread_pass class pages places often n o a size spread = record {
  more = λ at p e lt. elim (cases_order often p.often) [
    | inl same ↦ spread.same at p e (sym same) (subst (λ m. at < m) size (slice_get_within pages at p e))
    | inr apart ↦ elim apart [
      | inl more ↦ spread.more at p e more
      | inr less ↦
          let half : p.often ≤ often / 2 = at_most_half often p.often o (a at p e) less in
          absurd (omega (arith, half, lt))
    ]
  ];
  same = λ at p e often lt. absurd (omega (arith, lt));
}

-- the beginning and the end

none_more : (blocks : List Block) → AllByRecursion IsOftenBlock blocks → filter (λ b. ltb 8 b.often) blocks ≡ []
none_more [] a = refl
none_more (b ∷ blocks) a =
    let o : IsOften b.often = a.0 in
    cond-false (ltb 8 b.often) (b ∷ filter (λ b. ltb 8 b.often) blocks) (filter (λ b. ltb 8 b.often) blocks) (le-ltb 8 b.often o.most)
    ∙ none_more blocks a.1

pub counted_start : (blocks : List Block) → AllByRecursion IsOftenBlock blocks → AreCounted (replicate 8 0) blocks 8 0
counted_start blocks a = record {
  eight = refl;
  each = λ round lt.
      get_or-replicate 8 round 0 0 lt
      ∙ ap (λ xs. packets_in (round_of (xs ++ []) round)) (sym (none_more blocks a));
}

pub spread_start : (class : Class) (pages : List Authored) (places : List ℕ) → AreOften pages → IsSpreadTo class pages places 8 0
spread_start class pages places a = record {
  more = λ at p e lt. let o : IsOften p.often = a at p e in absurd (omega (arith, lt, o.most));
  same = λ at p e often lt. absurd (omega (arith, lt));
}

pub spread_end : (class : Class) (pages : List Authored) (places : List ℕ) → AreOften pages → IsSpreadTo class pages places 0 0 →
    IsSpread class pages places
spread_end class pages places a spread = λ at p e. let o : IsOften p.often = a at p e in spread.more at p e (omega (arith, o.some))
