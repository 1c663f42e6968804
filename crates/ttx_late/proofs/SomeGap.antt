-- Where each page of a cycle is followed by another page number, some gap is the greatest one.
use Rattle.std.proofs.Common.{◌≡◌, ◌⊎◌, ℕ, zero, suc, ◌+◌, pos, ◌+ℤ◌, false, ◌==◌, ◌&&◌, List, [], ◌∷◌, length, slice_get, Option, Some, None}
use Rattle.std.proofs.Common.{refl, sym, ◌∙◌, ap, subst, inl, inr, arith}
use Rattle.std.proofs.lemmas.Int.{ints}
use Rattle.std.proofs.lemmas.Bool.{both_ways, cases_Bool, cases_lt}
use Rattle.ttx_header.specs.Ids.{Id}
use Rattle.ttx_page.proofs.SlotDistances.{offset}
use Rattle.ttx_page.specs.Followers.{IsFollowed, IsFollowedWithin}
use Rattle.ttx_page.specs.Laws.{EachSlotTurns, StreamsMove}
use Rattle.ttx_page.specs.Packets.{packet_of}
use Rattle.ttx_page.specs.Pages.{Page}
use Rattle.ttx_page.specs.Streams.{Stream, repeated}
use Rattle.ttx_late.specs.Followed.{id_in, HeadsAt, IsFollowedIn, IsListed, IsWidened, AllAreFollowed}
use Rattle.ttx_late.specs.Laws.{SomeGapIsGreatest}
use Rattle.ttx_late.proofs.FollowersOfCycles.{no_header, own_is, id_heads, near_within, tested_is, tested_self}
use Rattle.ttx_late.proofs.GreatestGap.{none_widens, nearer_widens, further_widens, IsReached, reach}
use Rattle.ttx_late.proofs.UnderHeaders.{another_heads, next_is}

-- an id is that of a page of the list, or of none
cases_listed : (pages : List Page) (id : Id) → IsListed pages id ⊎ (IsListed pages id → ⊥)
cases_listed [] id = inr (λ l. let none : None ≡ Some l.page = l.listed in cc)
cases_listed (q ∷ pages) id = elim (cases_Bool ((q.id.mag == id.mag) && ((q.id.page == id.page) && (q.id.sub == id.sub)))) as
    (λ _. IsListed (q ∷ pages) id ⊎ (IsListed (q ∷ pages) id → ⊥)) [
      | inl is ↦ inl (record { index = zero; page = q; listed = refl; is = tested_is q.id id is })
      | inr unlike ↦ elim (cases_listed pages id) as (λ _. IsListed (q ∷ pages) id ⊎ (IsListed (q ∷ pages) id → ⊥)) [
        | inl l ↦ inl (record { index = suc l.index; page = l.page; listed = l.listed; is = l.is })
        | inr none ↦ inr (λ l. not_there l.index l.page l.listed l.is unlike none)
      ]
    ]
  where
    not_there : (n : ℕ) (p : Page) → slice_get (q ∷ pages) n ≡ Some p → p.id ≡ id →
        (q.id.mag == id.mag) && ((q.id.page == id.page) && (q.id.sub == id.sub)) ≡ false → (IsListed pages id → ⊥) → ⊥
    not_there zero p at same unlike none = let is : q ≡ p = cc in both_ways _ unlike (tested_self q.id id (ap (λ (x : Page). x.id) is ∙ same))
    not_there (suc n) p at same unlike none = none (record { index = n; page = p; listed = at; is = same })

-- the header that follows comes so many slots later
distance_of : (s : Stream) (page : Id) (at : ℕ) → IsFollowed s page (pos at) → (distance : ℕ) × IsFollowedIn s page at distance
distance_of s page at f =
    let earlier = f.next.earlier in
    let d = offset (pos at) f.slot (omega (arith, ints)) in
    let there : f.slot ≡ pos at +ℤ pos d.0 = d.1 in
    let head = another_heads page (packet_of (s f.slot)) f.another in
    (d.0, (f, λ g. let same = next_is s page (pos at) f.slot f.next head g in omega (arith, ints)))

module _ (cycle : List (List ℕ)) (pages : List Page) (followed : AllAreFollowed cycle pages) where
  module _ (at gap : ℕ) where
    abbrev Wider : Type 0
    Wider = (more : ℕ) × IsWidened (repeated cycle) (IsListed pages) at gap more

    with_own : (own : Id) → id_in (packet_of (repeated cycle (pos at))) ≡ Some own → Wider
    with_own own here = elim (cases_listed pages own) as (λ _. Wider) [
      | inr none ↦ (
        gap,
        none_widens (repeated cycle) (IsListed pages) at gap (λ page l head.
            none (record { index = l.index; page = l.page; listed = l.listed; is = l.is ∙ own_is (repeated cycle) at own here page head })),
      )
      | inl l ↦
          let head = id_heads own (packet_of (repeated cycle (pos at))) here in
          let f = followed l.index l.page l.listed (pos at) (subst (λ x. HeadsAt (repeated cycle) x at) (sym l.is) head) in
          let d = distance_of (repeated cycle) own at (subst (λ x. IsFollowed (repeated cycle) x (pos at)) l.is f) in
          let only : (page : Id) → IsListed pages page → HeadsAt (repeated cycle) page at → page ≡ own =
          λ page _ other. own_is (repeated cycle) at own here page other in
          elim (cases_lt gap d.0) as (λ _. Wider) [
            | inl lt ↦ (d.0, further_widens (repeated cycle) (IsListed pages) at gap own only d.0 d.1 lt l head)
            | inr ge ↦ (gap, nearer_widens (repeated cycle) (IsListed pages) at gap own only d.0 d.1 ge)
          ]
    ]

    widen : (o : Option Id) → id_in (packet_of (repeated cycle (pos at))) ≡ o → Wider
    widen None none = (
      gap,
      none_widens (repeated cycle) (IsListed pages) at gap (λ page _ head. no_header (repeated cycle) at none page head),
    )
    widen (Some own) here = with_own own here

  -- the gap after so many slots
  reached : (count : ℕ) → (gap : ℕ) × IsReached (repeated cycle) (IsListed pages) count gap
  reached zero = (0, record { near = λ i lt page sought head. absurd (omega arith); least = λ other within. omega arith })
  reached (suc count) =
      let r = reached count in
      let w = widen count r.0 (id_in (packet_of (repeated cycle (pos count)))) refl in
      let next : count + 1 ≡ suc count = omega arith in
      (w.0, subst (λ n. IsReached (repeated cycle) (IsListed pages) n w.0) next (reach (repeated cycle) (IsListed pages) count r.0 w.0 r.1 w.1))

pub some_gap_is_greatest : EachSlotTurns → StreamsMove → SomeGapIsGreatest
some_gap_is_greatest turn move cycle pages some followed =
    let r = reached cycle pages followed (length cycle) in (
      r.0,
      record {
        within = λ n p listed. near_within turn move cycle some p.id r.0 (length cycle) (omega arith)
            (λ i lt head. r.1.near i lt p.id (record { index = n; page = p; listed = listed; is = refl }) head);
        least = λ other within. r.1.least other
            (λ page l. subst (λ x. IsFollowedWithin (repeated cycle) x other) l.is (within l.index l.page l.listed));
      },
    )
