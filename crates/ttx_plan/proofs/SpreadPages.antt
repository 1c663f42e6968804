-- The blocks of a service's pages with their places: one place is changed, and places are in range.
use Rattle.std.proofs.Common.{◌≡◌, ℕ, zero, suc, ◌+◌, ◌/◌, ◌%◌, ◌<◌, ◌≤◌, Bool, true, false, cond, eqb}
use Rattle.std.proofs.Common.{List, [], ◌∷◌, length, set, get_or}
use Rattle.std.proofs.Common.{Some, sym, ap, ◌∙◌, subst, arith, inl, inr}
use Rattle.std.specs.Prelude.{slice_get}
use Rattle.std.proofs.lemmas.Bool.{cases_lt}
use Rattle.std.proofs.lemmas.List.{get_or_past}
use Rattle.ttx_page.specs.declared.class.Class.{Class}
use Rattle.ttx_source.specs.Services.{Authored}
use Rattle.ttx_plan.specs.Blocks.{at_place, placed}
use Rattle.ttx_plan.specs.Carries.{block_at, blocks_of}
use Rattle.ttx_plan.specs.Contents.{rest_of}
use Rattle.ttx_plan.specs.Ranges.{ArePlaces, IsOften}
use Rattle.ttx_plan.specs.Spread.{IsFirstLeast, IsSpread, burden_so_far, packets_so_far}
use Rattle.ttx_plan.specs.SubpageTurns.{burden}
use Rattle.ttx_plan.specs.Spreading.{AreCounted, IsSpreadTo}
use Rattle.ttx_plan.proofs.OftenNumbers.{period_range}
use Rattle.ttx_plan.proofs.ServicePages.{page_block, page_placed}
use Rattle.ttx_plan.proofs.SpreadPlaces.{weight, first_least_same, spread_more, counted_more, spread_else, counted_else}

-- pages that are spread are at places in range
pub spread_in_range : (class : Class) (places : List ℕ) (pages : List Authored) → IsSpread class pages places → ArePlaces places pages
spread_in_range class places pages spread = λ i page e. (spread i page e).within

-- one more page

-- the page at the index takes its place
pub page_spread : (class : Class) (places : List ℕ) (pages : List Authored) (n often place : ℕ) (burdens packets : List ℕ) (page : Authored) →
    n < length places → slice_get pages n ≡ Some page → page.often ≡ often → IsOften often →
    IsFirstLeast (λ round. get_or burdens round 0) (8 / often) place →
    ((round : ℕ) → round < 8 → get_or burdens round 0 ≡ burden pages places n page (get_or packets round 0) round) →
    AreCounted packets (placed places (blocks_of class pages)) often n → IsSpreadTo class pages places often n →
    IsSpreadTo class pages (set places n place) often (n + 1)
page_spread class places pages n often place burdens packets page lt e is range least judged counted spread =
    let few : 8 / page.often ≤ 8 = (period_range page.often (subst IsOften (sym is) range)).1 in
    let more = spread_more class pages places n place page lt e
    (first_least_same (λ round. get_or burdens round 0) (burden_so_far class pages places n page) (8 / page.often) place
    (λ round below. judged round (omega (arith, below, few))
    ∙ ap (λ m. burden pages places n page m round) (counted.each round (omega (arith, below, few))
    ∙ ap (λ o. packets_so_far (placed places (blocks_of class pages)) o n round) (sym is)))
    (subst (λ o. IsFirstLeast (λ round. get_or burdens round 0) (8 / o) place) (sym is) least))
    (subst (λ o. IsSpreadTo class pages places o n) (sym is) spread) in
    subst (λ o. IsSpreadTo class pages (set places n place) o (n + 1)) is more

-- and its packets are added to the rounds of the place
pub page_counted : (class : Class) (places : List ℕ) (pages : List Authored) (n often place count : ℕ) (packets after : List ℕ) (page : Authored) →
    n < length places → slice_get pages n ≡ Some page → page.often ≡ often → count ≡ length (rest_of class page.page) + 1 → length after ≡ 8 →
    ((round : ℕ) → round < 8 → get_or after round 0 ≡ get_or packets round 0 + cond (eqb (round % (8 / often)) place) count 0) →
    AreCounted packets (placed places (blocks_of class pages)) often n →
    AreCounted after (placed (set places n place) (blocks_of class pages)) often (n + 1)
page_counted class places pages n often place count packets after page lt e is many eight added counted =
    let block_weight : count ≡ weight (at_place (get_or places n 0) (block_at class page)) =
    let h : count ≡ length (rest_of class page.page) + 1 = many in omega (arith, h) in
    let more = counted_more packets after (placed places (blocks_of class pages)) n place (at_place (get_or places n 0) (block_at class page))
    (page_block class places pages n page e) eight
    (λ round below. added round below
    ∙ ap (λ o. get_or packets round 0 + cond (eqb (round % (8 / o)) place) count 0) (sym is)
    ∙ ap (λ m. get_or packets round 0 + cond (eqb (round % (8 / page.often)) place) m 0) block_weight)
    (subst (λ o. AreCounted packets (placed places (blocks_of class pages)) o n) (sym is) counted) in
    subst (λ o. AreCounted after (placed (set places n place) (blocks_of class pages)) o (n + 1)) is
    (subst (λ blocks. AreCounted after blocks page.often (n + 1)) (sym (page_placed class places pages n place page lt e)) more)

-- the page at the index is sent more or less often
pub page_passed : (class : Class) (places : List ℕ) (pages : List Authored) (n often : ℕ) (packets : List ℕ) (page : Authored) →
    slice_get pages n ≡ Some page → (page.often ≡ often → ⊥) →
    IsSpreadTo class pages places often n → AreCounted packets (placed places (blocks_of class pages)) often n →
    IsSpreadTo class pages places often (n + 1) × AreCounted packets (placed places (blocks_of class pages)) often (n + 1)
page_passed class places pages n often packets page e other spread counted = (
  spread_else class pages places n page often e other spread,
  counted_else packets (placed places (blocks_of class pages)) n (at_place (get_or places n 0) (block_at class page)) often
      (page_block class places pages n page e) other counted,
)

-- bounds on the packets of a round

pub added_most : (packets after : List ℕ) (period place count round : ℕ) → length after ≡ length packets → count ≤ 26 →
    ((r : ℕ) → r < length packets → get_or after r 0 ≡ get_or packets r 0 + cond (eqb (r % period) place) count 0) →
    get_or after round 0 ≤ get_or packets round 0 + 26
added_most packets after period place count round size few added = elim (cases_lt round (length packets)) [
  | inl within ↦
      let most : cond (eqb (round % period) place) count 0 ≤ 26 = at_most (eqb (round % period) place) in
      omega (arith, added round within, most)
  | inr past ↦ let none : get_or after round 0 ≡ 0 = get_or_past after round 0 (omega (arith, past, size)) in omega (arith, none)
]
  where
    at_most : (b : Bool) → cond b count 0 ≤ 26
    at_most true = few
    at_most false = omega arith

pub small_set : (places : List ℕ) (n place at : ℕ) → ((k : ℕ) → get_or places k 0 < 8) → place < 8 → get_or (set places n place) at 0 < 8
small_set [] n place at small lt = small at
small_set (p ∷ places) zero place zero small lt = lt
small_set (p ∷ places) zero place (suc at) small lt = small (suc at)
small_set (p ∷ places) (suc n) place zero small lt = small 0
small_set (p ∷ places) (suc n) place (suc at) small lt = small_set places n place at (λ k. small (suc k)) lt
