-- One header decides across a change: the last one of the magazine before it.
use Rattle.std.proofs.Common.{◌≡◌, ℕ, ℤ, pos, ◌+ℤ◌, ◌<ℤ◌, ◌≤ℤ◌, true, false, ◌==◌, sym, subst, inl, inr, arith}
use Rattle.std.proofs.lemmas.Int.{ints}
use Rattle.std.proofs.lemmas.Bool.{both_ways, and_parts}
use Rattle.ttx_header.specs.Ids.{Id}
use Rattle.ttx_page.specs.Packets.{Packet, Empty, Unreadable, Header, Row, Links, Info, Other, packet_of}
use Rattle.ttx_page.specs.Streams.{Stream, heads, heads_page, IsLatestHeader}
use Rattle.ttx_page.specs.Followers.{heads_another}
use Rattle.ttx_page.proofs.SlotDistances.{cases_ltz}
use Rattle.ttx_playout.specs.Laws.{AcrossIsDecided}
use Rattle.ttx_page.proofs.Owners.{page_heads}

pub another_heads : (page : Id) (packet : Packet) → heads_another page packet ≡ true → heads page.mag packet ≡ true
another_heads page (Header id control text) h = (and_parts (id.mag == page.mag) _ h).0
another_heads page (Row m n text) h = h
another_heads page (Links m content) h = h
another_heads page Empty h = h
another_heads page Unreadable h = h
another_heads page Info h = h
another_heads page Other h = h

-- there is only one first header of the magazine after a slot
same_place : (s : Stream) (mag : ℕ) (low x y : ℤ) → low <ℤ x → low <ℤ y →
    heads mag (packet_of (s x)) ≡ true → heads mag (packet_of (s y)) ≡ true →
    ((i : ℤ) → low <ℤ i → i <ℤ x → heads mag (packet_of (s i)) ≡ false) → ((i : ℤ) → low <ℤ i → i <ℤ y → heads mag (packet_of (s i)) ≡ false) → x ≡ y
same_place s mag low x y a b p q none_x none_y = elim (cases_ltz x y) as (λ _. x ≡ y) [
  | inl lt ↦ absurd (both_ways _ (none_y x a lt) p)
  | inr ge ↦ elim (cases_ltz y x) as (λ _. x ≡ y) [ inl lt ↦ absurd (both_ways _ (none_x y b lt) q) | inr le ↦ omega (arith, ints) ]
]

pub across_is_decided : AcrossIsDecided
across_is_decided s page gap last first low high next head = (
  (λ across own.
      let f = across last low own (λ i a b. next.none_between i a (omega (arith, ints))) in
      let e = same_place s page.mag last f.0.slot first f.0.next.earlier next.earlier (another_heads page (packet_of (s f.0.slot)) f.0.another) head
      f.0.next.none_between next.none_between in
      let near = f.1 in
      (subst (λ z. heads_another page (packet_of (s z)) ≡ true) e f.0.another, subst (λ z. z ≤ℤ (last +ℤ pos gap)) e f.1)),
  (λ decided h lt own none.
      let mine = page_heads page (packet_of (s h)) own in
      let e : last ≡ h = elim (cases_ltz h last) as (λ _. last ≡ h) [
        | inl before ↦ absurd (both_ways _ (none last before low) next.is_header)
        | inr ge ↦ elim (cases_ltz last h) as (λ _. last ≡ h) [
          | inl after ↦ absurd (both_ways _ (next.none_between h after (omega (arith, ints))) mine)
          | inr le ↦ omega (arith, ints)
        ]
      ] in
      let d = decided (subst (λ z. heads_page page (packet_of (s z)) ≡ true) (sym e) own) in (
        record {
          slot = first;
          next = subst (λ z. IsLatestHeader s page.mag z first) e next;
          another = d.0;
        },
        subst (λ z. first ≤ℤ (z +ℤ pos gap)) e d.1,
      )),
)
