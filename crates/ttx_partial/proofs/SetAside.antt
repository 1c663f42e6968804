-- A slot of a cycle without a number: the slot itself, or a header with page number FF.
use Rattle.std.proofs.Common.{◌≡◌, ◌⊎◌, inl, inr, ℕ, Bool, true, false, ◌==◌, List, refl, ap, sym, ◌∙◌, subst, arith, if◌then◌else◌}
use Rattle.ttx_packet.specs.Slots.{IsSlot, Kind, IsHeader, kind_of}
use Rattle.ttx_header.specs.Ids.{Id}
use Rattle.ttx_header.specs.Headers.{id_of}
use Rattle.ttx_header.specs.Laws.{HeadersHaveFields, HeadersAreHeaders}
use Rattle.ttx_page.specs.Packets.{Packet, Header, packet_of, packet_of_kind}
use Rattle.ttx_page.specs.declared.selection.Selection.TheVariants.{AnySub}
use Rattle.ttx_page.specs.declared.item.Item.{Item}
use Rattle.ttx_page.specs.declared.item.Item.TheVariants.{Head as TheHead, Row as TheRow, Links as TheLinks}
use Rattle.ttx_page.specs.Streams.{heads, heads_page, heads_matched, carries}
use Rattle.ttx_partial.specs.Asides.{same_number, is_numbered, time_filled, slot_aside}
use Rattle.ttx_partial.proofs.FilledHeaders.{IsFilled, filled}

-- the slot as it was, and no header of the number
pub record IsKept (id : Id) (s t : List ℕ) : Type 0 where
  pub same : t ≡ s
  pub other : is_numbered id (packet_of s) ≡ false

-- a header of the number, and a time-filling one in its place
pub record IsReplaced (id : Id) (s t : List ℕ) : Type 0 where
  pub numbered : is_numbered id (packet_of s) ≡ true
  pub filling : IsFilled id.mag (packet_of t)

abbrev pub Answers : Id → List ℕ → List ℕ → Type 0
Answers id s t = IsKept id s t ⊎ IsReplaced id s t

-- the magazine of a header of the number
header_mag : (id hid : Id) → same_number id hid ≡ true → hid.mag ≡ id.mag
header_mag id hid e = grind arith

-- by the kind of the slot
by_kind : HeadersHaveFields → HeadersAreHeaders → (id : Id) (s : List ℕ) → IsSlot s → (k : Kind) → kind_of s ≡ k →
    is_numbered id (packet_of_kind s k) ≡ true → IsFilled id.mag (packet_of (time_filled s))
by_kind fields headers id s is (IsHeader mag) e n =
    let has = fields s mag is e in
    subst (λ m. IsFilled m (packet_of (time_filled s))) (sym has.magazine ∙ header_mag id (id_of s) n) (filled fields headers s is mag e)
by_kind fields headers id s is k e n = absurd (grind arith)

numbered : HeadersHaveFields → HeadersAreHeaders → (id : Id) (s : List ℕ) → IsSlot s → is_numbered id (packet_of s) ≡ true → IsFilled id.mag (packet_of (time_filled s))
unfolding packet_of
numbered fields headers id s is n = by_kind fields headers id s is (kind_of s) refl n

by_test : (id : Id) (s : List ℕ) → ((is_numbered id (packet_of s) ≡ true) → IsFilled id.mag (packet_of (time_filled s))) → (b : Bool) → is_numbered id (packet_of s) ≡ b →
    Answers id s (if b then time_filled s else s)
by_test id s f true e = inr (record { numbered = e; filling = f e })
by_test id s f false e = inl (record { same = refl; other = e })

pub answered : HeadersHaveFields → HeadersAreHeaders → (id : Id) (s : List ℕ) → IsSlot s → Answers id s (slot_aside id s)
answered fields headers id s is = by_test id s (numbered fields headers id s is) (is_numbered id (packet_of s)) refl

-- a header of the number and of the page
pub clash : (id page : Id) (packet : Packet) → is_numbered id packet ≡ true → heads_page page packet ≡ true → same_number id page ≡ true
clash id page (Header hid control text) n h = grind arith
clash id page packet n h = absurd (grind arith)

pub clash_number : (id page : Id) (packet : Packet) → is_numbered id packet ≡ true → heads_matched (AnySub page.mag page.page) packet ≡ true → same_number id page ≡ true
clash_number id page (Header hid control text) n h = grind arith
clash_number id page packet n h = absurd (grind arith)

pub apart_of : (id page : Id) (packet : Packet) → is_numbered id packet ≡ false → heads_page page packet ≡ true → same_number id page ≡ false
apart_of id page (Header hid control text) n h = grind arith
apart_of id page packet n h = absurd (grind arith)

-- it carries no item
pub carries_none : (id : Id) (mag : ℕ) (item : Item) (packet : Packet) → is_numbered id packet ≡ true → carries mag item packet ≡ true → ⊥
carries_none id mag TheHead packet n c = grind arith
carries_none id mag (TheRow r) (Header hid control text) n c = grind arith
carries_none id mag (TheRow r) packet n c = grind arith
carries_none id mag TheLinks (Header hid control text) n c = grind arith
carries_none id mag TheLinks packet n c = grind arith

-- the time-filling header is of the same magazine
pub same_heads : (id : Id) (mag : ℕ) (p q : Packet) → is_numbered id p ≡ true → IsFilled id.mag q → heads mag q ≡ heads mag p
same_heads id mag (Header hid control text) q n f =
    ap (heads mag) f.is ∙ ap (λ m. m == mag) (f.mag_is ∙ sym (header_mag id hid n))
same_heads id mag p q n f = absurd (grind arith)

-- and of no page
pub no_page : (id page : Id) (q : Packet) → (page.page ≡ 255 → ⊥) → IsFilled id.mag q → heads_page page q ≡ true → ⊥
no_page id page q not_ff f h = not_ff (let e = sym (ap (heads_page page) f.is) ∙ h in let g = f.page_is in grind arith)
