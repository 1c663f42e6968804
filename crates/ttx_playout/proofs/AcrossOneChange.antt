-- Whether a page is followed across one change, by the last header of its magazine in the old cycle and the first one in the new cycle.
use Rattle.std.proofs.Common.{◌≡◌, ◌↔◌, ℕ, zero, suc, Bool, ◌+◌, ◌<◌, ℤ, pos, negsuc, ◌<ℤ◌, true, false, List, [], length, get_or, Option, None, Some, sym, ap, ◌∙◌}
use Rattle.std.proofs.Common.{◌∷◌, refl, subst, inl, inr, arith}
use Rattle.std.proofs.lemmas.Int.{ints}
use Rattle.std.proofs.lemmas.Bool.{both_ways, cases_lt}
use Rattle.ttx_header.specs.Ids.{Id}
use Rattle.ttx_page.specs.Packets.{packet_of}
use Rattle.ttx_page.specs.Streams.{Stream, repeated, joined, turned, heads, heads_page, IsLatestHeader}
use Rattle.ttx_page.specs.Laws.{EachSlotTurns}
use Rattle.ttx_page.specs.Followers.{heads_another}
use Rattle.ttx_proof.proofs.LatestHeaderBefore.{latest_same}
use Rattle.ttx_proof.proofs.NamedStarts.{turned_start}
use Rattle.ttx_playout.specs.LateSchedules.{IsFollowedAcross}
use Rattle.ttx_playout.specs.LateChanges.{TellsFirstHeader, EndsInTime}
use Rattle.ttx_page.proofs.Owners.{page_heads}
use Rattle.ttx_playout.proofs.FollowedAcross.{another_heads, across_is_decided}

-- each cycle has a first header of the magazine, or none
first_header : (mag : ℕ) (cycle : List (List ℕ)) → (answer : Option ℕ) × TellsFirstHeader cycle mag answer
first_header mag [] = (None, λ i lt. absurd (omega arith))
first_header mag (slot ∷ cycle) = by_head (heads mag (packet_of slot)) refl (first_header mag cycle)
  where
    none_here : (b : Bool) → heads mag (packet_of slot) ≡ false → ((i : ℕ) → i < length cycle → heads mag (packet_of (get_or cycle i [])) ≡ false) →
        (i : ℕ) → i < suc (length cycle) → heads mag (packet_of (get_or (slot ∷ cycle) i [])) ≡ false
    none_here b e none zero lt = e
    none_here b e none (suc i) lt = none i (omega arith)

    before : (at : ℕ) → heads mag (packet_of slot) ≡ false → ((i : ℕ) → i < at → heads mag (packet_of (get_or cycle i [])) ≡ false) →
        (i : ℕ) → i < suc at → heads mag (packet_of (get_or (slot ∷ cycle) i [])) ≡ false
    before at e none zero lt = e
    before at e none (suc i) lt = none i (omega arith)

    by_head : (b : Bool) → heads mag (packet_of slot) ≡ b → (answer : Option ℕ) × TellsFirstHeader cycle mag answer →
        (answer : Option ℕ) × TellsFirstHeader (slot ∷ cycle) mag answer
    by_head true e rest = (Some 0, (omega arith, e, λ i lt. absurd (omega arith)))
    by_head false e (None, none) = (None, none_here false e none)
    by_head false e (Some at, first) = (Some (suc at), (let k = first.0 in omega arith, first.1, before at e first.2))

module _ (old new : List (List ℕ)) (page : Id) (gap : ℕ) where
  abbrev s : Stream
  s = joined old new

  -- the last header before the change is the old cycle's
  was_last : (h : ℤ) → h <ℤ pos 0 → heads_page page (packet_of (s h)) ≡ true →
      ((i : ℤ) → h <ℤ i → i <ℤ pos 0 → heads page.mag (packet_of (s i)) ≡ false) → IsLatestHeader (repeated old) page.mag h (pos 0)
  was_last (pos h) lt own none = absurd (omega (arith, ints))
  was_last (negsuc h) lt own none = record {
    earlier = lt;
    is_header = page_heads page (packet_of (repeated old (negsuc h))) own;
    none_between = between;
  }
    where
      between : (i : ℤ) → negsuc h <ℤ i → i <ℤ pos 0 → heads page.mag (packet_of (repeated old i)) ≡ false
      between (pos i) a b = absurd (omega (arith, ints))
      between (negsuc i) a b = none (negsuc i) a b

  pub none_last : ((h : ℤ) → IsLatestHeader (repeated old) page.mag h (pos 0) → ⊥) → IsFollowedAcross s page gap
  none_last none h lt own since = absurd (none h (was_last h lt own since))

  module _ (back : ℕ) (latest : IsLatestHeader (repeated old) page.mag (negsuc back) (pos 0)) where
    pub another_last : heads_page page (packet_of (repeated old (negsuc back))) ≡ false → IsFollowedAcross s page gap
    another_last other h lt own since =
        let e : h ≡ negsuc back = latest_same (repeated old) page.mag h (negsuc back) (pos 0) (was_last h lt own since) latest in
        absurd (both_ways _ other (subst (λ z. heads_page page (packet_of (s z)) ≡ true) e own))

    none_since : (i : ℤ) → negsuc back <ℤ i → i <ℤ pos 0 → heads page.mag (packet_of (s i)) ≡ false
    none_since (pos i) a b = absurd (omega (arith, ints))
    none_since (negsuc i) a b = latest.none_between (negsuc i) a b

    module _ (own : heads_page page (packet_of (repeated old (negsuc back))) ≡ true) where
      -- the new cycle has no header of the magazine
      module _ (turn : EachSlotTurns) (some : 0 < length new)
          (none : (i : ℕ) → i < length new → heads page.mag (packet_of (get_or new i [])) ≡ false) where
        no_header : (j : ℤ) → negsuc back <ℤ j → heads page.mag (packet_of (s j)) ≡ true → ⊥
        no_header (pos j) lt h = both_ways _ (none (turned (length new) (pos j)) (turn (length new) (pos j) some).inside) h
        no_header (negsuc j) lt h = both_ways _ (latest.none_between (negsuc j) lt (omega (arith, ints))) h

        never_followed : IsFollowedAcross s page gap → ⊥
        never_followed across =
            let f = across (negsuc back) (omega (arith, ints)) own none_since in
            no_header f.0.slot f.0.next.earlier (another_heads page (packet_of (s f.0.slot)) f.0.another)

      -- or its first one is here
      module _ (at : ℕ) (first : TellsFirstHeader new page.mag (Some at)) where
        here : (i : ℕ) → i < length new → s (pos i) ≡ get_or new i []
        here i lt = ap (λ n. get_or new n []) (turned_start (length new) i lt)

        next_header : IsLatestHeader s page.mag (negsuc back) (pos at)
        next_header = record { earlier = omega (arith, ints); is_header = latest.is_header; none_between = between }
          where
            between : (i : ℤ) → negsuc back <ℤ i → i <ℤ pos at → heads page.mag (packet_of (s i)) ≡ false
            between (pos i) a b =
                let inside = first.0 in
                let lt : i < at = omega (arith, ints) in
                ap (λ x. heads page.mag (packet_of x)) (here i (omega arith)) ∙ first.2 i lt
            between (negsuc i) a b = latest.none_between (negsuc i) a (omega (arith, ints))

        two_decide : IsFollowedAcross s page gap ↔ ((heads_another page (packet_of (get_or new at [])) ≡ true) × (at + back < gap))
        two_decide =
            let e = here at first.0 in
            let d = across_is_decided s page gap (negsuc back) (pos at) (omega (arith, ints)) (omega (arith, ints)) next_header
            (ap (λ x. heads page.mag (packet_of x)) e ∙ first.1) in (
              (λ across.
                  let k = d.0 across own in
                  let near = k.1 in
                  (ap (λ x. heads_another page (packet_of x)) (sym e) ∙ k.0, omega (arith, ints))),
              (λ k. let near = k.1 in d.1 (λ _. (ap (λ x. heads_another page (packet_of x)) e ∙ k.0, omega (arith, ints)))),
            )

      same_first : (at other : ℕ) → TellsFirstHeader new page.mag (Some at) → TellsFirstHeader new page.mag (Some other) → at ≡ other
      same_first at other a b = elim (cases_lt at other) as (λ _. at ≡ other) [
        | inl lt ↦ absurd (both_ways _ (b.2 at lt) a.1)
        | inr ge ↦ elim (cases_lt other at) as (λ _. at ≡ other) [ inl lt ↦ absurd (both_ways _ (a.2 other lt) b.1) | inr le ↦ omega arith ]
      ]

      pub decided : EachSlotTurns → 0 < length new → (answer : Option ℕ) → TellsFirstHeader new page.mag answer →
          EndsInTime new page back gap ↔ IsFollowedAcross s page gap
      decided turn some None none = (
        (λ ends. absurd (both_ways _ (none ends.0 ends.1.0) ends.1.1)),
        (λ across. absurd (never_followed turn some none across)),
      )
      decided turn some (Some at) first = (
        (λ ends. (two_decide ends.0 ends.1).1 (ends.2, ends.3)),
        (λ across. let k = (two_decide at first).0 across in (at, first, k.0, k.1)),
      )

      -- whether it has a header of the magazine, and which is the first
      pub decided_by : EachSlotTurns → 0 < length new → EndsInTime new page back gap ↔ IsFollowedAcross s page gap
      decided_by turn some = let k = first_header page.mag new in decided turn some k.0 k.1
