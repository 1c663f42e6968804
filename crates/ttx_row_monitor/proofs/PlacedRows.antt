-- The rows that slots of a cycle send, and their flags.
use Rattle.std.proofs.Common.{◌≡◌, ℕ, zero, suc, ◌%◌, ◌<◌, ◌≤◌, ℤ, pos, ◌+ℤ◌, ◌-ℤ◌, Bool, true, false, not, ◌&&◌, ◌==◌}
use Rattle.std.proofs.Common.{if◌then◌else◌, inl, inr, List, [], length, get_or, slice_get, Option, Some, None, refl, sym, ap, ◌∙◌, subst, arith, eqb-true}
use Rattle.std.proofs.lemmas.Int.{ints}
use Rattle.std.proofs.lemmas.Bool.{both_ways, cases_Bool}
use Rattle.ttx_packet.specs.Laws.{RowsAreNumbered}
use Rattle.ttx_packet.specs.Slots.{kind_of, is_empty}
use Rattle.ttx_header.specs.Ids.{Id}
use Rattle.ttx_page.specs.Laws.{EachSlotTurns, StreamsMove}
use Rattle.ttx_page.specs.Packets.{Packet, Empty, Unreadable, Header, Row, Links, Info, Other, packet_of, packet_of_kind}
use Rattle.ttx_page.specs.Pages.{Page, needed}
use Rattle.ttx_page.specs.declared.item.Item.{Item}
use Rattle.ttx_page.specs.declared.item.Item.TheVariants.{Head as TheHead, Row as TheRow, Links as TheLinks}
use Rattle.ttx_page.specs.Streams.{Stream, repeated, heads_page, carries, IsTransmission}
use Rattle.ttx_counter.proofs.SentRows.{IsNumbered, numbered}
use Rattle.ttx_monitor.specs.Places.{is_at, IsPlaced}
use Rattle.ttx_monitor.specs.declared.places.RowPlace.{RowPlace}
use Rattle.ttx_row_monitor.specs.Flags.{is_needed_row, IsText, IsFlag}

and_left : (a b : Bool) → (a && b) ≡ true → a ≡ true
and_left true b h = refl
and_left false b h = absurd (both_ways _ refl h)

and_right : (a b : Bool) → (a && b) ≡ true → b ≡ true
and_right true b h = h
and_right false b h = absurd (both_ways _ refl h)

carries_number : (mag r : ℕ) (p : Packet) → IsNumbered p → carries mag (TheRow r) p ≡ true → (1 ≤ r) × (r ≤ 24)
carries_number mag r (Row m number text) a h = let e : number ≡ r = eqb-true number r (and_right (m == mag) (number == r) h)
    in (let b = a.0 in omega arith, let b = a.1 in omega arith)
carries_number mag r Empty a h = absurd (both_ways _ refl h)
carries_number mag r Unreadable a h = absurd (both_ways _ refl h)
carries_number mag r (Header id control text) a h = absurd (both_ways _ refl h)
carries_number mag r (Links m content) a h = absurd (both_ways _ refl h)
carries_number mag r Info a h = absurd (both_ways _ refl h)
carries_number mag r Other a h = absurd (both_ways _ refl h)

-- a slot that sends an item is not empty
empty_packet : (slot : List ℕ) → is_empty slot ≡ true → packet_of slot ≡ Empty
unfolding packet_of kind_of
empty_packet slot h = ap (packet_of_kind slot) (cond_true (is_empty slot) _ _ h)
  where
    cond_true : {T : Type 0} (b : Bool) (x y : T) → b ≡ true → (if b then x else y) ≡ x
    cond_true true x y e = refl
    cond_true false x y e = absurd (both_ways _ refl e)

not_empty : (s : Stream) (page : Id) (item : Item) (j : ℤ) → IsText item → IsTransmission s page item j → is_empty (s j) ≡ false
not_empty s page item j text t = elim (cases_Bool (is_empty (s j))) as (λ _. is_empty (s j) ≡ false) [
  | inl h ↦ absurd (sends_none item text t (empty_packet (s j) h))
  | inr h ↦ h
]
  where
    sends_none : (item : Item) → IsText item → IsTransmission s page item j → packet_of (s j) ≡ Empty → ⊥
    sends_none TheHead text t e = both_ways _ refl (subst (λ p. heads_page page p ≡ true) e t.owned.1)
    sends_none (TheRow r) text t e = both_ways _ refl (subst (λ p. carries page.mag (TheRow r) p ≡ true) e t.owned.2)
    sends_none TheLinks text t e = absurd text

-- the flag counts for packets alone
pub flag_counts : (cycle : List (List ℕ)) (pages : List Page) (j : ℤ) (flag : Bool) → IsFlag cycle pages j flag →
    IsFlag cycle pages j (flag && not (is_empty (repeated cycle j)))
flag_counts cycle pages j flag is i p item listed text t =
    ap (λ e. flag && not e) (not_empty (repeated cycle) p.id item j text t) ∙ and_true flag ∙ is i p item listed text t
  where
    and_true : (b : Bool) → (b && true) ≡ b
    and_true true = refl
    and_true false = refl

-- where a page sends an item, this is its place
pub placed_text : RowsAreNumbered → (cycle : List (List ℕ)) (pages : List Page) (j : ℕ) (place : Option RowPlace) → IsPlaced cycle pages j place →
    (i : ℕ) (p : Page) (item : Item) → slice_get pages i ≡ Some p → IsText item → IsTransmission (repeated cycle) p.id item (pos j) →
    (r : ℕ) × (is_at i r place ≡ true) × (is_needed_row p item ≡ needed p (TheRow r))
placed_text numbers cycle pages j place is i p TheHead listed text t = (0, (is.told i p 0 listed (omega arith)).1 t, refl)
placed_text numbers cycle pages j place is i p (TheRow zero) listed text t =
    absurd (let b = carries_number p.id.mag 0 (packet_of (repeated cycle (pos j))) (numbered numbers (repeated cycle (pos j))) t.owned.2
    in let z = b.0 in omega arith)
placed_text numbers cycle pages j place is i p (TheRow (suc r)) listed text t =
    let b = carries_number p.id.mag (suc r) (packet_of (repeated cycle (pos j))) (numbered numbers (repeated cycle (pos j))) t.owned.2 in
    (suc r, (is.told i p (suc r) listed (let z = b.1 in omega arith)).1 t, refl)
placed_text numbers cycle pages j place is i p TheLinks listed text t = absurd text

pub flag_of_none : RowsAreNumbered → (cycle : List (List ℕ)) (pages : List Page) (j : ℕ) → IsPlaced cycle pages j None → IsFlag cycle pages (pos j) false
flag_of_none numbers cycle pages j is i p item listed text t =
    let at = placed_text numbers cycle pages j None is i p item listed text t in absurd (both_ways _ refl at.1)

module _ (numbers : RowsAreNumbered) (cycle : List (List ℕ)) (pages : List Page) (j : ℕ) (place : RowPlace) (is : IsPlaced cycle pages j (Some place)) where
  pub flag_of_missing : slice_get pages place.page ≡ None → IsFlag cycle pages (pos j) false
  flag_of_missing none i p item listed text t =
      let at = placed_text numbers cycle pages j (Some place) is i p item listed text t in
      let e : place.page ≡ i = eqb-true place.page i (and_left _ _ at.1) in
      absurd (none_some (sym none ∙ ap (slice_get pages) e ∙ listed))
    where
      none_some : {p : Page} → None ≡ Some p → ⊥
      none_some e = cc

  pub flag_of_page : (page : Page) → slice_get pages place.page ≡ Some page → (flag : Bool) → flag ≡ needed page (TheRow place.row) →
      IsFlag cycle pages (pos j) flag
  flag_of_page page here flag flag_is i p item listed text t =
      let at = placed_text numbers cycle pages j (Some place) is i p item listed text t in
      let e : place.page ≡ i = eqb-true place.page i (and_left _ _ at.1) in
      let r : place.row ≡ at.0 = eqb-true place.row at.0 (and_right _ _ at.1) in
      let same : page ≡ p = some_same (sym here ∙ ap (slice_get pages) e ∙ listed) in
      flag_is ∙ ap (λ q. needed q (TheRow place.row)) same ∙ ap (λ n. needed p (TheRow n)) r ∙ sym at.2
    where
      some_same : {a b : Page} → Some a ≡ Some b → a ≡ b
      some_same e = cc

-- the slot of the feed is a slot of the cycle
pub flag_on : EachSlotTurns → StreamsMove → (cycle : List (List ℕ)) → 0 < length cycle → (pages : List Page) (m : ℕ) (flag : Bool) →
    IsFlag cycle pages (pos (m % length cycle)) flag → IsFlag cycle pages (pos m) flag
flag_on turns move cycle some pages m flag is i p item listed text t =
    let turn = turns (length cycle) (pos m) some in
    let same_on : (i : ℤ) → repeated cycle (i +ℤ turn.by) ≡ repeated cycle i = λ i. ap (λ z. get_or cycle z []) (turn.same i) in
    let there = move (repeated cycle) turn.by same_on in
    let back = move (repeated cycle) (pos 0 -ℤ turn.by) there.back in
    let e : pos m +ℤ (pos 0 -ℤ turn.by) ≡ pos (m % length cycle) = let p = turn.place in omega (arith, ints) in
    is i p item listed text (subst (IsTransmission (repeated cycle) p.id item) e (back.transmission p.id item (pos m) t))
