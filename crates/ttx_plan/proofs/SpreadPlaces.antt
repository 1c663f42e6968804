-- Blocks that take their places one after another: what each place changes, and what it does not change.
use Rattle.std.proofs.Common.{◌≡◌, ℕ, zero, suc, ◌+◌, ◌/◌, ◌%◌, ◌<◌, Bool, true, false, cond, eqb, ltb}
use Rattle.std.proofs.Common.{List, [], ◌∷◌, ◌++◌, length, set, take}
use Rattle.std.proofs.Common.{get_or, Some, refl, sym, ap, ◌∙◌, subst, arith, inl, inr}
use Rattle.std.specs.Prelude.{slice_get, filter, sum_by}
use Rattle.std.proofs.lemmas.Bool.{cond-false, cases_eq, eq-eqb, ne_eqb, le-ltb, or_from, and_left, and_right, both_ways}
use Rattle.std.proofs.lemmas.List.{append-nil, append_assoc, take_more_set, get_or-set_same, get_or-set_other}
use Rattle.std.proofs.lemmas.List.Elements.{filter-append, filter_more}
use Rattle.std.proofs.lemmas.List.Sums.{sum_by-cons, sum_by-append}
use Rattle.std.proofs.lemmas.Option.{slice_get_within, get_or_from_slice_get}
use Rattle.ttx_plan.specs.Blocks.{Block, at_place, round_of, packets_in}
use Rattle.ttx_page.specs.declared.class.Class.{Class}
use Rattle.ttx_source.specs.Services.{Authored}
use Rattle.ttx_plan.specs.Spread.{earlier, burden_so_far, IsFirstLeast, IsAtPlace}
use Rattle.ttx_plan.specs.SubpageTurns.{comes_before}
use Rattle.ttx_plan.proofs.SpreadBurdens.{AgreeBefore, burden_alike}
use Rattle.ttx_plan.specs.Spreading.{IsSpreadTo, AreCounted}

-- the tests of the definitions

abbrev is_more : ℕ → Block → Bool
is_more often block = ltb often block.often

abbrev is_as : ℕ → Block → Bool
is_as often block = eqb block.often often

abbrev stands : ℕ → Block → Bool
stands round block = eqb (round % (8 / block.often)) block.place

abbrev pub weight : Block → ℕ
weight block = cond block.filler 1 0 + (length block.rest + 1)

-- a list with one element changed

one : {A : Type 0} (x y : A) → Some x ≡ Some y → x ≡ y
one x y e = cc

-- a filter that passes neither the old element nor the new one
filter_set : (test : Block → Bool) (xs : List Block) (n : ℕ) (x y : Block) → slice_get xs n ≡ Some x → test x ≡ false → test y ≡ false →
    filter test (set xs n y) ≡ filter test xs
filter_set test [] n x y e old new = refl
filter_set test (z ∷ xs) zero x y e old new =
    let same : z ≡ x = one z x e in
    cond-false (test y) (y ∷ filter test xs) (filter test xs) new
    ∙ sym (cond-false (test z) (z ∷ filter test xs) (filter test xs) (ap test same ∙ old))
filter_set test (z ∷ xs) (suc n) x y e old new = ap (λ rest. cond (test z) (z ∷ rest) rest) (filter_set test xs n x y e old new)

filter_take_set : (test : Block → Bool) (m : ℕ) (xs : List Block) (n : ℕ) (x y : Block) → slice_get xs n ≡ Some x → test x ≡ false →
    test y ≡ false → filter test (take m (set xs n y)) ≡ filter test (take m xs)
filter_take_set test zero xs n x y e old new = refl
filter_take_set test (suc m) [] n x y e old new = refl
filter_take_set test (suc m) (z ∷ xs) zero x y e old new =
    let same : z ≡ x = one z x e in
    cond-false (test y) (y ∷ filter test (take m xs)) (filter test (take m xs)) new
    ∙ sym (cond-false (test z) (z ∷ filter test (take m xs)) (filter test (take m xs)) (ap test same ∙ old))
filter_take_set test (suc m) (z ∷ xs) (suc n) x y e old new =
    ap (λ rest. cond (test z) (z ∷ rest) rest) (filter_take_set test m xs n x y e old new)

-- the blocks before one

-- a block that takes its place is added to those before
earlier_more : (blocks : List Block) (n place : ℕ) (block : Block) → slice_get blocks n ≡ Some block →
    earlier (set blocks n (at_place place block)) block.often (n + 1) ≡ earlier blocks block.often n ++ at_place place block ∷ []
earlier_more blocks n place block e =
    let less : ltb block.often block.often ≡ false = le-ltb block.often block.often (omega arith) in
    rw (
      filter_set (is_more block.often) blocks n block (at_place place block) e less less,
      take_more_set blocks n (at_place place block) (slice_get_within blocks n block e),
    )
    (rw (filter-append, eq-eqb block.often block.often refl)
    (sym (append_assoc (filter (is_more block.often) blocks) (filter (is_as block.often) (take n blocks)) (at_place place block ∷ []))))

-- a block that is sent more or less often is skipped
earlier_else : (blocks : List Block) (n : ℕ) (block : Block) (often : ℕ) → slice_get blocks n ≡ Some block → eqb block.often often ≡ false →
    earlier blocks often (n + 1) ≡ earlier blocks often n
earlier_else blocks n block often e other =
    rw (filter_more (is_as often) blocks n block (slice_get_within blocks n block e), get_or_from_slice_get blocks n block block e, other, append-nil)

-- the packets of a round

packets_more : (xs : List Block) (block : Block) (round : ℕ) → packets_in (round_of (xs ++ block ∷ []) round)
    ≡ packets_in (round_of xs round) + cond (stands round block) (weight block) 0
packets_more xs block round = rw (filter-append, sum_by-append weight, last (stands round block))
  where
    last : (b : Bool) → sum_by weight (cond b (block ∷ []) []) ≡ cond b (weight block) 0
    last true = rw (sum_by-cons weight) (omega arith)
    last false = refl

pub first_least_same : (f g : ℕ → ℕ) (count number : ℕ) → ((round : ℕ) → round < count → f round ≡ g round) → IsFirstLeast f count number →
    IsFirstLeast g count number
first_least_same f g count number same l =
    let here : f number ≡ g number = same number l.within in
    record {
      within = l.within;
      least = λ other lt. let there : f other ≡ g other = same other lt in omega (arith, here, there, l.least other lt);
      first = λ other lt. let there : f other ≡ g other = same other (omega (arith, lt, l.within)) in omega (arith, here, there, l.first other lt);
    }

-- a page takes its place

-- a place of the page at n does not matter to a page that takes its place before, nor to the page itself
agree_set : (pages : List Authored) (places : List ℕ) (n place : ℕ) (page : Authored) (at : ℕ) (p : Authored) → slice_get pages n ≡ Some page →
    comes_before at p n page ≡ false → AgreeBefore pages (set places n place) places at p
agree_set pages places n place page at p e not_before = λ k q there before. elim (cases_eq k n) [
  | inl same ↦
      let is : Some q ≡ Some page = sym there ∙ ap (slice_get pages) same ∙ e in
      let q_is : q ≡ page = cc in
      absurd (both_ways _ (ap (λ i. comes_before at p i q) same ∙ ap (comes_before at p n) q_is ∙ not_before) before)
  | inr apart ↦ get_or-set_other places n k place 0 apart
]

kept_place : (class : Class) (pages : List Authored) (places : List ℕ) (n place : ℕ) (page : Authored) (at : ℕ) (p : Authored) →
    slice_get pages n ≡ Some page → slice_get pages at ≡ Some p → (at ≡ n → ⊥) → comes_before at p n page ≡ false →
    IsAtPlace class pages places at p → IsAtPlace class pages (set places n place) at p
kept_place class pages places n place page at p e there apart before spread =
    subst (IsFirstLeast (burden_so_far class pages (set places n place) at p) (8 / p.often)) (sym (get_or-set_other places n at place 0 apart))
    (first_least_same (burden_so_far class pages places at p) (burden_so_far class pages (set places n place) at p) (8 / p.often) (get_or places at 0)
    (λ round lt. sym (burden_alike class pages (set places n place) places at p round there (agree_set pages places n place page at p e before)))
    spread)

pub spread_more : (class : Class) (pages : List Authored) (places : List ℕ) (n place : ℕ) (page : Authored) → n < length places →
    slice_get pages n ≡ Some page → IsFirstLeast (burden_so_far class pages places n page) (8 / page.often) place →
    IsSpreadTo class pages places page.often n → IsSpreadTo class pages (set places n place) page.often (n + 1)
spread_more class pages places n place page within e least spread = record {
  more = λ at p there lt.
      let apart : at ≡ n → ⊥ = λ same.
      let is : Some p ≡ Some page = sym there ∙ ap (slice_get pages) same ∙ e in
      let p_is : p ≡ page = cc in
      absurd (omega (arith, lt, ap (λ (x : Authored). x.often) p_is)) in
      kept_place class pages places n place page at p e there apart
      (or_from _ _ (le-ltb p.often page.often (omega (arith, lt)))
      (and_left _ (ltb n at) (ne_eqb page.often p.often (λ (eq : page.often ≡ p.often). omega (arith, lt, eq)))))
      (spread.more at p there lt);
  same = λ at p there often lt. elim (cases_eq at n) [
    | inl same ↦
        let is : Some page ≡ Some p = sym e ∙ ap (slice_get pages) (sym same) ∙ there in
        let p_is : page ≡ p = cc in
        let before : comes_before n page n page ≡ false =
        or_from _ _ (le-ltb page.often page.often (omega arith)) (and_right (eqb page.often page.often) _ (le-ltb n n (omega arith))) in
        let here : IsAtPlace class pages (set places n place) n page =
        subst (IsFirstLeast (burden_so_far class pages (set places n place) n page) (8 / page.often)) (sym (get_or-set_same places n place 0 within))
        (first_least_same (burden_so_far class pages places n page) (burden_so_far class pages (set places n place) n page) (8 / page.often) place
        (λ round lt. sym (burden_alike class pages (set places n place) places n page round e (agree_set pages places n place page n page e before)))
        least) in
        subst (λ k. IsAtPlace class pages (set places n place) k p) (sym same) (subst (IsAtPlace class pages (set places n place) n) p_is here)
    | inr apart ↦
        let before : at < n = omega (arith, lt, apart) in
        kept_place class pages places n place page at p e there apart
        (or_from _ _ (le-ltb p.often page.often (omega (arith, often))) (and_right (eqb page.often p.often) _ (le-ltb n at (omega (arith, before)))))
        (spread.same at p there often before)
  ];
}

pub counted_more : (packets after : List ℕ) (blocks : List Block) (n place : ℕ) (block : Block) → slice_get blocks n ≡ Some block →
    length after ≡ 8 →
    ((round : ℕ) → round < 8 → get_or after round 0 ≡ get_or packets round 0 + cond (eqb (round % (8 / block.often)) place) (weight block) 0) →
    AreCounted packets blocks block.often n → AreCounted after (set blocks n (at_place place block)) block.often (n + 1)
counted_more packets after blocks n place block e eight added counted = record {
  eight = eight;
  each = λ round lt.
      added round lt
      ∙ ap (λ m. m + cond (eqb (round % (8 / block.often)) place) (weight block) 0) (counted.each round lt)
      ∙ sym (packets_more (earlier blocks block.often n) (at_place place block) round)
      ∙ ap (λ xs. packets_in (round_of xs round)) (sym (earlier_more blocks n place block e));
}

-- a page is skipped that is sent more often or less often

pub spread_else : (class : Class) (pages : List Authored) (places : List ℕ) (n : ℕ) (page : Authored) (often : ℕ) → slice_get pages n ≡ Some page →
    (page.often ≡ often → ⊥) → IsSpreadTo class pages places often n → IsSpreadTo class pages places often (n + 1)
spread_else class pages places n page often e other spread = record {
  more = spread.more;
  same = λ at p there same lt. elim (cases_eq at n) [
    | inl here ↦
        let is : Some page ≡ Some p = sym e ∙ ap (slice_get pages) (sym here) ∙ there in
        let p_is : page ≡ p = cc in
        absurd (other (ap (λ (x : Authored). x.often) p_is ∙ same))
    | inr apart ↦ spread.same at p there same (omega (arith, lt, apart))
  ];
}

pub counted_else : (packets : List ℕ) (blocks : List Block) (n : ℕ) (block : Block) (often : ℕ) → slice_get blocks n ≡ Some block →
    (block.often ≡ often → ⊥) → AreCounted packets blocks often n → AreCounted packets blocks often (n + 1)
counted_else packets blocks n block often e other counted = record {
  eight = counted.eight;
  each = λ round lt. counted.each round lt
      ∙ ap (λ xs. packets_in (round_of xs round)) (sym (earlier_else blocks n block often e (ne_eqb block.often often other)));
}
