-- The most slots from a header of one of some pages to the header that follows it.
use Rattle.std.proofs.Common.{◌≡◌, ℕ, ◌+◌, ◌<◌, ◌≤◌, pos, ◌≤ℤ◌, refl, sym, subst, inl, inr, arith}
use Rattle.std.proofs.lemmas.Int.{ints}
use Rattle.std.proofs.lemmas.Bool.{cases_lt}
use Rattle.ttx_header.specs.Ids.{Id}
use Rattle.ttx_page.specs.Streams.{Stream}
use Rattle.ttx_page.specs.Followers.{IsFollowed, IsFollowedWithin}
use Rattle.ttx_late.specs.Followed.{HeadsAt, IsFollowedIn, IsWidened}

module _ (s : Stream) (Sought : Id → Type 0) where
  module _ (at gap : ℕ) where
    pub none_widens : ((page : Id) → Sought page → HeadsAt s page at → ⊥) → IsWidened s Sought at gap gap
    none_widens none = record { grows = omega arith; enough = λ page sought head. absurd (none page sought head); needed = inl refl }

    module _ (own : Id) (only : (page : Id) → Sought page → HeadsAt s page at → page ≡ own) (distance : ℕ) (told : IsFollowedIn s own at distance) where
      near : (more : ℕ) → distance ≤ more → (page : Id) → Sought page → HeadsAt s page at → (f : IsFollowed s page (pos at)) × (f.slot ≤ℤ pos (at + more))
      near more le page sought head =
          let mine = subst (λ x. IsFollowedIn s x at distance) (sym (only page sought head)) told in
          let e = mine.1 mine.0 in
          (mine.0, omega (arith, ints))

      pub nearer_widens : distance ≤ gap → IsWidened s Sought at gap gap
      nearer_widens le = record { grows = omega arith; enough = near gap le; needed = inl refl }

      pub further_widens : gap < distance → Sought own → HeadsAt s own at → IsWidened s Sought at gap distance
      further_widens lt sought head = record { grows = omega arith; enough = near distance (omega arith); needed = inr (own, sought, head, told) }

  -- the gap after so many slots
  pub record IsReached (count gap : ℕ) : Type 0 where
    pub near : (i : ℕ) → i < count → (page : Id) → Sought page → HeadsAt s page i → (f : IsFollowed s page (pos i)) × (f.slot ≤ℤ pos (i + gap))
    pub least : (other : ℕ) → ((page : Id) → Sought page → IsFollowedWithin s page other) → gap ≤ other

  pub reach : (count gap more : ℕ) → IsReached count gap → IsWidened s Sought count gap more → IsReached (count + 1) more
  reach count gap more r w = record {
    near = λ i lt page sought head. elim (cases_lt i count) as (λ _. (f : IsFollowed s page (pos i)) × (f.slot ≤ℤ pos (i + more))) [
      | inl less ↦ let f = r.near i less page sought head in let le = f.1 in let grows = w.grows in (f.0, omega (arith, ints))
      | inr ge ↦ subst (λ k. HeadsAt s page k → (f : IsFollowed s page (pos k)) × (f.slot ≤ℤ pos (k + more)))
          (let e : count ≡ i = omega arith in e) (w.enough page sought) head
    ];
    least = λ other within. elim w.needed as (λ _. more ≤ other) [
      | inl same ↦ let le = r.least other within in omega arith
      | inr need ↦
          let f = within need.0 need.1 (pos count) need.2 in
          let e = need.3.1 f.0 in
          let le = f.1 in
          omega (arith, ints)
    ];
  }
