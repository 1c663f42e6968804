-- The first slot that hangs over and differs from the page.
use Rattle.std.proofs.Common.{◌≡◌, ℕ, ◌+◌, ◌<◌, ◌≤◌, ℤ, pos, negsuc, ◌<ℤ◌, ◌≤ℤ◌, true, false, List, [], length, get_or, ◌==◌, sym, ap, ◌∙◌, subst}
use Rattle.std.proofs.Common.{inl, inr, arith, eqb-true, mod-eq_of_lt}
use Rattle.std.proofs.lemmas.Int.{ints}
use Rattle.std.proofs.lemmas.Bool.{cases_lt, cases_eq, and_parts, both_ways}
use Rattle.ttx_page.specs.Packets.{Packet, Empty, Unreadable, Header, Row, Links, Info, Other, packet_of}
use Rattle.ttx_page.specs.declared.item.Item.{Item}
use Rattle.ttx_page.specs.declared.item.Item.TheVariants.{Head as TheHead, Row as TheRow, Links as TheLinks}
use Rattle.ttx_page.specs.Streams.{repeated, turned, heads, carries}
use Rattle.ttx_page.specs.Laws.{EachSlotTurns}
use Rattle.ttx_proof.specs.Seams.{StandsFirst}
use Rattle.ttx_witness.specs.faults.Comparing.{HoldsNoRow}

pub no_head : (mag : ℕ) (packet : Packet) → carries mag TheHead packet ≡ true → ⊥
no_head mag (Header id control text) e = cc
no_head mag (Row m n text) e = cc
no_head mag (Links m content) e = cc
no_head mag Empty e = cc
no_head mag Unreadable e = cc
no_head mag Info e = cc
no_head mag Other e = cc

-- a header carries nothing
no_header_carries : (mag : ℕ) (item : Item) (packet : Packet) → heads mag packet ≡ true → carries mag item packet ≡ true → ⊥
no_header_carries mag TheHead packet h e = no_head mag packet e
no_header_carries mag (TheRow r) (Row m n text) h e = cc
no_header_carries mag (TheRow r) (Header id control text) h e = cc
no_header_carries mag (TheRow r) (Links m content) h e = cc
no_header_carries mag (TheRow r) Empty h e = cc
no_header_carries mag (TheRow r) Unreadable h e = cc
no_header_carries mag (TheRow r) Info h e = cc
no_header_carries mag (TheRow r) Other h e = cc
no_header_carries mag TheLinks (Links m content) h e = cc
no_header_carries mag TheLinks (Header id control text) h e = cc
no_header_carries mag TheLinks (Row m n text) h e = cc
no_header_carries mag TheLinks Empty h e = cc
no_header_carries mag TheLinks Unreadable h e = cc
no_header_carries mag TheLinks Info h e = cc
no_header_carries mag TheLinks Other h e = cc

-- a row carries only itself
its_row : (mag r m n : ℕ) (text : List ℕ) (packet : Packet) → packet ≡ Row m n text → carries mag (TheRow r) packet ≡ true → r ≡ n
its_row mag r m n text packet e h = let k : carries mag (TheRow r) (Row m n text) ≡ true =
    subst (λ x. carries mag (TheRow r) x ≡ true) e h in sym (eqb-true n r ((and_parts (m == mag) _ k).1))

-- what is not a row carries none
no_row : (mag r : ℕ) (packet : Packet) → HoldsNoRow packet → carries mag (TheRow r) packet ≡ true → ⊥
no_row mag r (Row m n text) h e = absurd h
no_row mag r (Header id control text) h e = cc
no_row mag r (Links m content) h e = cc
no_row mag r Empty h e = cc
no_row mag r Unreadable h e = cc
no_row mag r Info h e = cc
no_row mag r Other h e = cc

-- of the items that a slot carries
module _ (mag : ℕ) (slot : List ℕ) (Is : Item → Type 0) (carried : (item : Item) → Is item → carries mag item (packet_of slot) ≡ true)
    (links : Is TheLinks → ⊥) where
  -- a slot that is a row is such by this row, unless by its links
  pub only_row : (m n : ℕ) (text : List ℕ) → packet_of slot ≡ Row m n text → ((item : Item) × Is item) → Is (TheRow n)
  only_row m n text e w = go w.0 w.1
    where
      go : (item : Item) → Is item → Is (TheRow n)
      go TheHead v = absurd (no_head mag (packet_of slot) (carried TheHead v))
      go (TheRow r) v = subst (λ x. Is (TheRow x)) (its_row mag r m n text (packet_of slot) e (carried (TheRow r) v)) v
      go TheLinks v = absurd (links v)

  -- and one that is not a row, by its links
  pub only_links : HoldsNoRow (packet_of slot) → ((item : Item) × Is item) → ⊥
  only_links none w = go w.0 w.1
    where
      go : (item : Item) → Is item → ⊥
      go TheHead v = no_head mag (packet_of slot) (carried TheHead v)
      go (TheRow r) v = no_row mag r (packet_of slot) none (carried (TheRow r) v)
      go TheLinks v = links v

module _ (cycle : List (List ℕ)) (mag : ℕ) (Is : List ℕ → Type 0)
    (carried : (slot : List ℕ) → Is slot → (item : Item) × (carries mag item (packet_of slot) ≡ true)) where
  abbrev NoneTo : ℕ → Type 0
  NoneTo j = (i : ℕ) → i < j → heads mag (packet_of (get_or cycle i [])) ≡ false

  abbrev RightTo : ℕ → Type 0
  RightTo j = (i : ℕ) → i < j → Is (get_or cycle i []) → ⊥

  at_is : (m : ℕ) → m < length cycle → repeated cycle (pos m) ≡ get_or cycle m []
  at_is m lt = ap (λ i. get_or cycle i []) (mod-eq_of_lt lt)

  not_earlier : (j i : ℕ) → j < length cycle → RightTo j → i < j → StandsFirst (repeated cycle) mag Is (pos i) → ⊥
  not_earlier j i lt right below o = right i below (subst Is (at_is i (omega arith)) o.such)

  -- a header ends it
  pub ended : (j : ℕ) → j < length cycle → heads mag (packet_of (get_or cycle j [])) ≡ true → RightTo j → (z : ℤ) →
      StandsFirst (repeated cycle) mag Is z → ⊥
  ended j lt here right (negsuc m) o = let a = o.not_before in omega (arith, ints)
  ended j lt here right (pos m) o = elim (cases_lt m j) as (λ _. ⊥) [
    | inl below ↦ not_earlier j m lt right below o
    | inr ge ↦ elim (cases_eq m j) as (λ _. ⊥) [
      | inl e ↦
          let w = subst Is (ap (λ i. repeated cycle (pos i)) e ∙ at_is j lt) o.such in
          let k = carried (get_or cycle j []) w in
          no_header_carries mag k.0 (packet_of (get_or cycle j [])) here k.1
      | inr ne ↦ both_ways _ (o.no_header (pos j) (omega (arith, ints)) (above m ge ne)) (ap (λ x. heads mag (packet_of x)) (at_is j lt) ∙ here)
    ]
  ]
    where
      above : (m : ℕ) → j ≤ m → (m ≡ j → ⊥) → pos j <ℤ pos m
      above m ge ne = elim (cases_lt j m) as (λ _. pos j <ℤ pos m) [ inl lt ↦ omega (arith, ints) | inr le ↦ absurd (ne (omega arith)) ]

  pub first_is : (j : ℕ) → j < length cycle → NoneTo j → RightTo j → Is (get_or cycle j []) →
      StandsFirst (repeated cycle) mag Is (pos j) × ((i : ℕ) → i < j → StandsFirst (repeated cycle) mag Is (pos i) → ⊥)
  first_is j lt none right wrong = (
    record {
      not_before = omega (arith, ints);
      no_header = before;
      such = subst Is (sym (at_is j lt)) wrong;
    },
    λ i below o. not_earlier j i lt right below o,
  )
    where
      before : (i : ℤ) → pos 0 ≤ℤ i → i <ℤ pos j → heads mag (packet_of (repeated cycle i)) ≡ false
      before (pos i) a b = let le : i < j = omega (arith, ints) in ap (λ x. heads mag (packet_of x)) (at_is i (omega arith)) ∙ none i le
      before (negsuc i) a b = absurd (omega (arith, ints))

  pub none_over : EachSlotTurns → 0 < length cycle → RightTo (length cycle) → (z : ℤ) → StandsFirst (repeated cycle) mag Is z → ⊥
  none_over turn some right z o = right (turned (length cycle) z) (turn (length cycle) z some).inside o.such

  pub none_more : (j : ℕ) → NoneTo j → heads mag (packet_of (get_or cycle j [])) ≡ false → NoneTo (j + 1)
  none_more j none here i lt = elim (cases_eq i j) as (λ _. heads mag (packet_of (get_or cycle i [])) ≡ false) [
    | inl e ↦ ap (λ m. heads mag (packet_of (get_or cycle m []))) e ∙ here
    | inr ne ↦ none i (elim (cases_lt i j) as (λ _. i < j) [ inl k ↦ k | inr k ↦ absurd (ne (omega arith)) ])
  ]

  pub right_more : (j : ℕ) → RightTo j → (Is (get_or cycle j []) → ⊥) → RightTo (j + 1)
  right_more j right here i lt w = elim (cases_eq i j) as (λ _. ⊥) [
    | inl e ↦ here (subst (λ m. Is (get_or cycle m [])) e w)
    | inr ne ↦ right i (elim (cases_lt i j) as (λ _. i < j) [ inl k ↦ k | inr k ↦ absurd (ne (omega arith)) ]) w
  ]
