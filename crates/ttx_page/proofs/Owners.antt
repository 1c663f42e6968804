-- Owners of packets.
use Rattle.std.proofs.Common.{◌≡◌, ℕ, ◌<◌, ℤ, pos, ◌+ℤ◌, ◌<ℤ◌, ◌≤ℤ◌, true, ◌==◌, sym, ap, ◌∙◌, subst, inl, inr, arith, eqb-true, eq-eqb}
use Rattle.std.proofs.lemmas.Int.{ints}
use Rattle.std.proofs.lemmas.Bool.{and_parts, both_ways}
use Rattle.ttx_header.specs.Ids.{Id}
use Rattle.ttx_page.specs.Packets.{Packet, Empty, Unreadable, Header, Row, Links, packet_of}
use Rattle.ttx_page.specs.Pages.{Item, TheHead, TheRow, TheLinks}
use Rattle.ttx_page.specs.Streams.{Stream, heads, heads_page, carries, IsLatestHeader, IsOwned}
use Rattle.ttx_page.specs.Laws.{IsSameOn, OwnersAreUnique, OwnersComeFirst, OwnersAreNear, OwnersDontFall}
use Rattle.ttx_page.proofs.SlotDistances.{cases_ltz}

latest_unique : (s : Stream) (mag : ℕ) (h k j : ℤ) → IsLatestHeader s mag h j → IsLatestHeader s mag k j → h ≡ k
latest_unique s mag h k j a b = elim (cases_ltz h k) as (λ _. h ≡ k) [
  | inl lt ↦ absurd (both_ways _ (a.none_between k lt b.earlier) b.is_header)
  | inr ge ↦ elim (cases_ltz k h) as (λ _. h ≡ k) [
    | inl lt ↦ absurd (both_ways _ (b.none_between h lt a.earlier) a.is_header)
    | inr le ↦ omega (arith, ints)
  ]
]

pub owners_are_unique : OwnersAreUnique
owners_are_unique s page TheHead h k j a b = a.0 ∙ sym b.0
owners_are_unique s page (TheRow r) h k j a b = latest_unique s page.mag h k j a.0 b.0
owners_are_unique s page TheLinks h k j a b = latest_unique s page.mag h k j a.0 b.0

pub owners_come_first : OwnersComeFirst
owners_come_first s page TheHead h j a = let e = a.0 in omega (arith, ints)
owners_come_first s page (TheRow r) h j a = let e = a.0.earlier in omega (arith, ints)
owners_come_first s page TheLinks h j a = let e = a.0.earlier in omega (arith, ints)

-- a row or an X/27/0 is not a header
no_head : (mag : ℕ) (item : Item) (packet : Packet) → heads mag packet ≡ true → carries mag item packet ≡ true → ⊥
no_head mag TheHead (Header id control text) h k = cc
no_head mag (TheRow r) (Header id control text) h k = cc
no_head mag TheLinks (Header id control text) h k = cc
no_head mag item Empty h k = cc
no_head mag item Unreadable h k = cc
no_head mag item (Row m number text) h k = cc
no_head mag item (Links m content) h k = cc
no_head mag item _ h k = cc

-- a header of the page is one of its magazine
pub page_heads : (page : Id) (packet : Packet) → heads_page page packet ≡ true → heads page.mag packet ≡ true
page_heads page (Header id control text) h = swapped ((and_parts _ _ (and_parts _ _ h).0).0)
  where
    swapped : (page.mag == id.mag) ≡ true → (id.mag == page.mag) ≡ true
    swapped e = eq-eqb _ _ (sym (eqb-true _ _ e))
page_heads page Empty h = h
page_heads page Unreadable h = h
page_heads page (Row m number text) h = h
page_heads page (Links m content) h = h
page_heads page _ h = h

latest_near : (s : Stream) (n : ℕ) → 0 < n → IsSameOn s (pos n) → (mag : ℕ) (h j : ℤ) → IsLatestHeader s mag h j → j ≤ℤ (h +ℤ pos n)
latest_near s n some period mag h j a = elim (cases_ltz (h +ℤ pos n) j) as (λ _. j ≤ℤ (h +ℤ pos n)) [
  | inl lt ↦ absurd (both_ways _ (a.none_between (h +ℤ pos n) (omega (arith, ints)) lt) (ap (λ x. heads mag (packet_of x)) (period h) ∙ a.is_header))
  | inr ge ↦ ge
]

-- a slot that is not a header is not one period after its owner
text_near : (s : Stream) (n : ℕ) → 0 < n → IsSameOn s (pos n) → (mag : ℕ) (item : Item) (h j : ℤ) → IsLatestHeader s mag h j →
    carries mag item (packet_of (s j)) ≡ true → j <ℤ (h +ℤ pos n)
text_near s n some period mag item h j a c = elim (cases_ltz j (h +ℤ pos n)) as (λ _. j <ℤ (h +ℤ pos n)) [
  | inl lt ↦ lt
  | inr ge ↦
      let le = latest_near s n some period mag h j a in
      let e : h +ℤ pos n ≡ j = omega (arith, ints) in
      absurd (no_head mag item (packet_of (s j))
      (subst (λ x. heads mag (packet_of (s x)) ≡ true) e (ap (λ x. heads mag (packet_of x)) (period h) ∙ a.is_header)) c)
]

pub owners_are_near : OwnersAreNear
owners_are_near s n some period page TheHead h j a = let e = a.0 in omega (arith, ints)
owners_are_near s n some period page (TheRow r) h j a = text_near s n some period page.mag (TheRow r) h j a.0 a.2
owners_are_near s n some period page TheLinks h j a = text_near s n some period page.mag TheLinks h j a.0 a.2

-- the latest header before a later slot is not earlier
latest_rises : (s : Stream) (mag : ℕ) (h k j : ℤ) → h <ℤ j → heads mag (packet_of (s h)) ≡ true → IsLatestHeader s mag k j → h ≤ℤ k
latest_rises s mag h k j before is b = elim (cases_ltz k h) as (λ _. h ≤ℤ k) [
  | inl lt ↦ absurd (both_ways _ (b.none_between h lt before) is)
  | inr ge ↦ ge
]

-- an owner is a header of the magazine
owner_heads : (s : Stream) (page : Id) (item : Item) (h j : ℤ) → IsOwned s page item h j → heads page.mag (packet_of (s h)) ≡ true
owner_heads s page TheHead h j a = subst (λ x. heads page.mag (packet_of (s x)) ≡ true) (sym a.0) (page_heads page (packet_of (s j)) a.1)
owner_heads s page (TheRow r) h j a = a.0.is_header
owner_heads s page TheLinks h j a = a.0.is_header

pub owners_dont_fall : OwnersDontFall
owners_dont_fall s page item TheHead h k i j lt a b = let first = owners_come_first s page item h i a in let e = b.0 in omega (arith, ints)
owners_dont_fall s page item (TheRow r) h k i j lt a b =
    let first = owners_come_first s page item h i a in latest_rises s page.mag h k j (omega (arith, ints)) (owner_heads s page item h i a) b.0
owners_dont_fall s page item TheLinks h k i j lt a b =
    let first = owners_come_first s page item h i a in latest_rises s page.mag h k j (omega (arith, ints)) (owner_heads s page item h i a) b.0
