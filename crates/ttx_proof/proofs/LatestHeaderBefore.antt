-- The latest header before slot 0, searched backwards.
use Rattle.std.proofs.Common.{◌≡◌, ◌↔◌, ℕ, ◌-◌, ◌<◌, ℤ, pos, negsuc, ◌<ℤ◌, Bool, true, false, List, [], length, get_or, sym, ap, ◌∙◌, subst, inl, inr}
use Rattle.std.proofs.Common.{arith, mod-eq_of_lt}
use Rattle.std.proofs.lemmas.Int.{ints}
use Rattle.std.proofs.lemmas.Bool.{both_ways}
use Rattle.ttx_page.proofs.SlotDistances.{cases_ltz}
use Rattle.ttx_header.specs.Ids.{Id}
use Rattle.ttx_page.specs.Packets.{packet_of}
use Rattle.ttx_page.specs.Streams.{Stream, repeated, turned, heads, heads_page, IsLatestHeader}
use Rattle.ttx_page.specs.Laws.{EachSlotTurns}
use Rattle.ttx_proof.specs.Seams.{IsLeftTo}

pub latest_same : (s : Stream) (mag : ℕ) (h k j : ℤ) → IsLatestHeader s mag h j → IsLatestHeader s mag k j → h ≡ k
latest_same s mag h k j a b = elim (cases_ltz h k) as (λ _. h ≡ k) [
  | inl lt ↦ absurd (both_ways _ (a.none_between k lt b.earlier) b.is_header)
  | inr ge ↦ elim (cases_ltz k h) as (λ _. h ≡ k) [
    | inl lt ↦ absurd (both_ways _ (b.none_between h lt a.earlier) a.is_header)
    | inr le ↦ omega (arith, ints)
  ]
]

module _ (cycle : List (List ℕ)) (mag : ℕ) where
  -- the slot a number of places before slot 0
  pub back_is : (back : ℕ) → back < length cycle → repeated cycle (negsuc back) ≡ get_or cycle (length cycle - 1 - back) []
  back_is back lt = ap (λ m. get_or cycle (length cycle - 1 - m) []) (mod-eq_of_lt lt)

  abbrev NoneSince : ℕ → Type 0
  NoneSince back = (i : ℕ) → i < back → heads mag (packet_of (get_or cycle (length cycle - 1 - i) [])) ≡ false

  -- the first header found is the latest
  pub latest_at : (back : ℕ) → back < length cycle → heads mag (packet_of (get_or cycle (length cycle - 1 - back) [])) ≡ true →
      NoneSince back → IsLatestHeader (repeated cycle) mag (negsuc back) (pos 0)
  latest_at back lt here none = record {
    earlier = omega (arith, ints);
    is_header = ap (λ x. heads mag (packet_of x)) (back_is back lt) ∙ here;
    none_between = between;
  }
    where
      between : (i : ℤ) → negsuc back <ℤ i → i <ℤ pos 0 → heads mag (packet_of (repeated cycle i)) ≡ false
      between (pos i) a b = absurd (omega (arith, ints))
      between (negsuc i) a b = let le : i < back = omega (arith, ints) in ap (λ x. heads mag (packet_of x)) (back_is i (omega arith)) ∙ none i le

  -- if none is found there is none
  pub none_met : EachSlotTurns → 0 < length cycle → NoneSince (length cycle) → (h : ℤ) → IsLatestHeader (repeated cycle) mag h (pos 0) → ⊥
  none_met turn some none h l =
      let inside = (turn (length cycle) h some).inside in
      let at = turned (length cycle) h in
      let e : length cycle - 1 - (length cycle - 1 - at) ≡ at = omega arith in
      both_ways _ (ap (λ m. heads mag (packet_of (get_or cycle m []))) (sym e) ∙ none (length cycle - 1 - at) (omega arith)) l.is_header

-- the latest header decides to which page a magazine is left
pub left_by : (cycle : List (List ℕ)) (page : Id) (h : ℤ) → IsLatestHeader (repeated cycle) page.mag h (pos 0) → (answer : Bool) →
    answer ≡ heads_page page (packet_of (repeated cycle h)) →
    (answer ≡ true) ↔ IsLeftTo (repeated cycle) page
left_by cycle page h latest answer e = (
  (λ y. record { owner = h; latest = latest; mine = sym e ∙ y }),
  (λ l. e ∙ subst (λ z. heads_page page (packet_of (repeated cycle z)) ≡ true)
      (latest_same (repeated cycle) page.mag l.owner h (pos 0) l.latest latest) l.mine),
)

pub left_to_none : (cycle : List (List ℕ)) (page : Id) → ((h : ℤ) → IsLatestHeader (repeated cycle) page.mag h (pos 0) → ⊥) →
    (false ≡ true) ↔ IsLeftTo (repeated cycle) page
left_to_none cycle page none = ((λ y. let h : false ≡ true = y in cc), (λ l. absurd (none l.owner l.latest)))
