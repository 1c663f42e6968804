-- What the kind of a slot says about its packet.
use Rattle.std.proofs.Common.{◌≡◌, ℕ, Bool, true, false, not, List, Option, Some, None, SomeIff, MatchOption, IsTrue, drop, map, ◌↔◌, refl, sym}
use Rattle.std.proofs.Common.{subst}
use Rattle.ttx_packet.specs.Slots.{IsSlot, Kind, IsEmpty, IsUnreadable, IsHeader, IsRow, IsLinks, IsInfo, IsOther, kind_of}
use Rattle.ttx_header.specs.Ids.{Id}
use Rattle.ttx_header.specs.Fields.{HeaderFields}
use Rattle.ttx_header.specs.declared.control.Control.{Control}
use Rattle.ttx_header.specs.Headers.{id_of, control_of, header_fields_of, is_header}
use Rattle.ttx_page.specs.Packets.{Packet, Empty, Unreadable, Header, Row, Links, Info, Other, packet_of, packet_of_kind}
use Rattle.ttx_page.specs.declared.item.Item.TheVariants.{Row as TheRow, Links as TheLinks}
use Rattle.ttx_page.specs.Streams.{heads_page, carries}
use Rattle.ttx_code.specs.Words.{odd_byte}
use Rattle.ttx_page.specs.Pages.{Page, page_row}
use Rattle.ttx_page.specs.Steady.{RowIsRight}
use Rattle.ttx_witness.specs.faults.Comparing.{HoldsHeader, HoldsId, HoldsNoHeader, HoldsNoRow, HoldsNoLinks}
use Rattle.ttx_header.specs.Laws.{HeadersHaveFields, HeadersAreHeaders}
use Rattle.ttx_witness.proofs.lemmas.sent.OwnersAfterSlot.{packet_is, IsNoHeader, no_header}

pub by_kind : (P : Packet → Type 0) (slot : List ℕ) (k : Kind) → kind_of slot ≡ k → P (packet_of_kind slot k) → P (packet_of slot)
by_kind P slot k e h = subst P (sym (packet_is slot k e)) h

pub holds_none : (slot : List ℕ) (k : Kind) → IsNoHeader k → kind_of slot ≡ k → HoldsNoHeader (packet_of slot)
holds_none slot IsEmpty n e = by_kind HoldsNoHeader slot IsEmpty e tt
holds_none slot IsUnreadable n e = by_kind HoldsNoHeader slot IsUnreadable e tt
holds_none slot (IsHeader mag) n e = absurd n
holds_none slot (IsRow mag number) n e = by_kind HoldsNoHeader slot (IsRow mag number) e tt
holds_none slot (IsLinks mag) n e = by_kind HoldsNoHeader slot (IsLinks mag) e tt
holds_none slot IsInfo n e = by_kind HoldsNoHeader slot IsInfo e tt
holds_none slot (IsOther mag number) n e = by_kind HoldsNoHeader slot (IsOther mag number) e tt

-- the same of its id and its control bits
pub id_told : (slot : List ℕ) → IsSlot slot → HeadersHaveFields → HeadersAreHeaders → (o : Option (Id × Control)) →
    SomeIff o (is_header slot ≡ true) (id_of slot, record { 0 = control_of slot }) →
    MatchOption o (HoldsNoHeader (packet_of slot)) (λ h. HoldsId h.0 h.1.0 slot)
id_told slot is fields headers None none = holds_none slot (kind_of slot) (no_header slot (λ mag e. none (fields slot mag is e).header)) refl
id_told slot is fields headers (Some h) told =
    subst (λ x. HoldsId x.0 x.1.0 slot) (sym told.1) (packet_is slot (IsHeader (id_of slot).mag) (headers slot is told.0))

-- a packet that is not a header
pub no_page : (page : Id) (packet : Packet) → HoldsNoHeader packet → heads_page page packet ≡ false
no_page page Empty n = refl
no_page page Unreadable n = refl
no_page page (Header id control text) n = absurd n
no_page page (Row mag number text) n = refl
no_page page (Links mag content) n = refl
no_page page Info n = refl
no_page page Other n = refl

-- a packet that is not a row, or not an X/27/0
pub no_row : (mag r : ℕ) (packet : Packet) → HoldsNoRow packet → carries mag (TheRow r) packet ≡ false
no_row mag r Empty n = refl
no_row mag r Unreadable n = refl
no_row mag r (Header id control text) n = refl
no_row mag r (Row m number text) n = absurd n
no_row mag r (Links m content) n = refl
no_row mag r Info n = refl
no_row mag r Other n = refl

pub no_links : (mag : ℕ) (packet : Packet) → HoldsNoLinks packet → carries mag TheLinks packet ≡ false
no_links mag Empty n = refl
no_links mag Unreadable n = refl
no_links mag (Header id control text) n = refl
no_links mag (Row m number text) n = refl
no_links mag (Links m content) n = absurd n
no_links mag Info n = refl
no_links mag Other n = refl

-- what is read of a header is what its packet contains
pub header_told : (slot : List ℕ) → IsSlot slot → HeadersHaveFields → HeadersAreHeaders → (o : Option HeaderFields) →
    SomeIff o (is_header slot ≡ true) (header_fields_of slot) →
    MatchOption o (HoldsNoHeader (packet_of slot)) (λ h. HoldsHeader h (packet_of slot))
header_told slot is fields headers None none = holds_none slot (kind_of slot) (no_header slot (λ mag e. none (fields slot mag is e).header)) refl
header_told slot is fields headers (Some h) told =
    subst (λ x. HoldsHeader x (packet_of slot)) (sym told.1)
    (record { text = drop 10 slot; is = packet_is slot (IsHeader (id_of slot).mag) (headers slot is told.0); same = refl })

-- a row is right if and only if its text is
pub row_right : (p : Page) (r mag number : ℕ) (text : List ℕ) (packet : Packet) → packet ≡ Row mag number text → RowIsRight p r packet
    ↔ (text ≡ map odd_byte (page_row p r))
row_right p r mag number text packet e =
    subst (λ x. RowIsRight p r x ↔ (text ≡ map odd_byte (page_row p r))) (sym e) ((λ h. h), (λ h. h))

-- the negation of a test
pub not_tested : (b : Bool) (P : Type 0) → (IsTrue b ↔ P) → IsTrue (not b) ↔ (P → ⊥)
not_tested true P h = ((λ t p. cc), (λ n. absurd (n (h.0 refl))))
not_tested false P h = ((λ t p. let e = h.1 p in cc), (λ n. refl))
