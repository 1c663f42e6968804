-- There is one way to spread pages: two lists of places by which the same pages are spread place their blocks alike.
use Rattle.std.proofs.Common.{◌≡◌, ℕ, zero, suc, ◌/◌, ◌<◌, ◌≤◌, true, eqb, ltb, ◌&&◌, List, length, get_or}
use Rattle.std.proofs.Common.{◌+◌, ◌-◌, ◌*◌, mul-le-mul, Some, sym, ap, ◌∙◌, arith, inl, inr}
use Rattle.std.specs.Prelude.{slice_get}
use Rattle.std.proofs.lemmas.Bool.{cases_order, ltb-true, eqb-true, or_cases, and_parts}
use Rattle.std.proofs.lemmas.Option.{slice_get_within, get_or_from_slice_get}
use Rattle.std.proofs.lemmas.List.{same_lists}
use Rattle.ttx_page.specs.declared.class.Class.{Class}
use Rattle.ttx_source.specs.Services.{Authored}
use Rattle.ttx_plan.specs.Blocks.{at_place, placed}
use Rattle.ttx_plan.specs.Carries.{block_at, blocks_of}
use Rattle.ttx_plan.specs.SubpageTurns.{comes_before}
use Rattle.ttx_plan.specs.Spread.{burden_so_far, IsFirstLeast, IsSpread}
use Rattle.ttx_plan.proofs.SubpageLists.{listed_at}
use Rattle.ttx_plan.proofs.ServicePages.{page_block, blocks_size}
use Rattle.ttx_plan.proofs.SpreadBurdens.{burden_alike}
use Rattle.ttx_plan.proofs.SpreadPasses.{AreOften}
use Rattle.ttx_plan.proofs.SpreadPlaces.{first_least_same}

first_least_once : (value : ℕ → ℕ) (count a b : ℕ) → IsFirstLeast value count a → IsFirstLeast value count b → a ≡ b
first_least_once value count a b l m = elim (cases_order a b) [
  | inl same ↦ same
  | inr apart ↦ elim apart [
    | inl lt ↦ absurd (omega (arith, m.first a lt, l.least b m.within))
    | inr lt ↦ absurd (omega (arith, l.first b lt, m.least a l.within))
  ]
]

weighed : (a b n i : ℕ) → suc a ≤ b → i < n → a * n + i < b * n
weighed a b n i le lt = let h : suc a * n ≤ b * n = mul-le-mul le (omega arith) in omega (arith, h, lt)

-- by the order in which pages take their places
places_agree : (class : Class) (pages : List Authored) (places others : List ℕ) → AreOften pages → IsSpread class pages places →
    IsSpread class pages others → (m k : ℕ) (p : Authored) → slice_get pages k ≡ Some p → (8 - p.often) * length pages + k < m →
    get_or places k 0 ≡ get_or others k 0
places_agree class pages places others a one two zero k p e lt = absurd (omega (arith, lt))
places_agree class pages places others a one two (suc m) k p e lt =
    first_least_once (burden_so_far class pages others k p) (8 / p.often) (get_or places k 0) (get_or others k 0)
    (first_least_same (burden_so_far class pages places k p) (burden_so_far class pages others k p) (8 / p.often) (get_or places k 0)
    (λ round lt. burden_alike class pages places others k p round e
    (λ i q f before. places_agree class pages places others a one two m i q f (sooner i q f before))) (one k p e)) (two k p e)
  where
    sooner : (i : ℕ) (q : Authored) → slice_get pages i ≡ Some q → comes_before k p i q ≡ true → (8 - q.often) * length pages + i < m
    sooner i q f before = elim (or_cases (ltb p.often q.often) (eqb q.often p.often && ltb i k) before) as
        (λ _. (8 - q.often) * length pages + i < m) [
          | inl more ↦
              let few : q.often ≤ 8 = (a i q f).most in
              let less : p.often < q.often = ltb-true p.often q.often more in
              omega (arith, lt, weighed (8 - q.often) (8 - p.often) (length pages) i (omega arith) (slice_get_within pages i q f))
          | inr both ↦
              let two = and_parts (eqb q.often p.often) (ltb i k) both in
              omega (arith, lt, ltb-true i k two.1, ap (λ n. (8 - n) * length pages) (eqb-true q.often p.often two.0))
        ]

lt_suc : (n : ℕ) → n < suc n
lt_suc n = omega arith

pub spread_once : (class : Class) (pages : List Authored) (places others : List ℕ) → AreOften pages → IsSpread class pages places →
    IsSpread class pages others → placed places (blocks_of class pages) ≡ placed others (blocks_of class pages)
spread_once class pages places others a one two =
    same_lists (placed places (blocks_of class pages)) (placed others (blocks_of class pages))
    (blocks_size class places pages ∙ sym (blocks_size class others pages))
    (λ k d lt.
    let p = listed_at pages k (omega (arith, lt, blocks_size class places pages)) in
    get_or_from_slice_get (placed places (blocks_of class pages)) k _ d (page_block class places pages k p.0 p.1)
    ∙ ap (λ n. at_place n (block_at class p.0)) (places_agree class pages places others a one two _ k p.0 p.1 (lt_suc _))
    ∙ sym (get_or_from_slice_get (placed others (blocks_of class pages)) k _ d (page_block class others pages k p.0 p.1)))
