-- How pages are compared with the slots that send them.
--
--   HoldsHeader, HoldsId, HoldsNoHeader     the packet is this header; it has this id and these control bits; it is no header
--   HoldsRow, HoldsNoRow, HoldsLinks, HoldsNoLinks  the same for rows and links
--   mine_after, sends       whether the magazine's latest header is the page's after a slot; whether a slot sends an item
--   is_mine, is_number_of   whether an owner is a header of the page; whether a number is that of an item
--   heads_other_subpage        a header of the page's number with another subcode
--   Check, compared_item    what is compared, and the item in whose transmissions
--   IsWrong, WrongAt, OtherHeaderAt         a slot that differs from the page
use Rattle.std.specs.Prelude.{◌≡◌, ℕ, ℤ, Bool, true, false, not, ◌&&◌, ◌==◌, if◌then◌else◌, List, Option, Some, None, take, drop}
use Rattle.ttx_packet.specs.declared.place.Address.{Address}
use Rattle.ttx_header.specs.Ids.{Id}
use Rattle.ttx_header.specs.Fields.{HeaderFields}
use Rattle.ttx_links.specs.Sets.{links_of}
use Rattle.ttx_page.specs.Packets.{Packet, Header, Row, Links, packet_of}
use Rattle.ttx_page.specs.Pages.{Page}
use Rattle.ttx_page.specs.declared.selection.Selection.TheVariants.{AnySub}
use Rattle.ttx_page.specs.declared.item.Item.{Item}
use Rattle.ttx_page.specs.declared.item.Item.TheVariants.{Head as TheHead, Row as TheRow, Links as TheLinks}
use Rattle.ttx_page.specs.Streams.{Stream, heads, heads_page, heads_matched, carries, IsTransmission}
use Rattle.ttx_page.specs.Steady.{erases_page, IsLikeHead, RowIsRight, LinksAreRight}
use Rattle.ttx_witness.specs.sent.Collected.{item_number}
use Rattle.ttx_witness.specs.sent.ItemTransmissions.{PageOwner}
use Rattle.ttx_witness.specs.declared.faults.wrong_slots.Check.{Check}
use Rattle.ttx_witness.specs.declared.faults.wrong_slots.Check.TheVariants.{EraseBit, Head as CheckHead, Row as CheckRow, Links as CheckLinks}

-- the packet is this page header
pub record HoldsHeader (header : HeaderFields) (packet : Packet) : Type 0 where
  pub text : List ℕ
  pub is : packet ≡ Header header.id header.control text
  pub same : take 24 text ≡ header.text

-- the slot is a header with this id and these control bits
abbrev pub HoldsId : Id → ℕ → List ℕ → Type 0
HoldsId id control slot = packet_of slot ≡ Header id control (drop 10 slot)

abbrev pub HoldsNoHeader : Packet → Type 0
HoldsNoHeader (Header id control text) = ⊥
HoldsNoHeader _ = Unit {0}

-- the slot is the row with this address
abbrev pub HoldsRow : Address → List ℕ → Type 0
HoldsRow at slot = packet_of slot ≡ Row at.mag at.number (drop 2 slot)

abbrev pub HoldsNoRow : Packet → Type 0
HoldsNoRow (Row mag number text) = ⊥
HoldsNoRow _ = Unit {0}

-- the slot is an X/27/0 of this magazine
abbrev pub HoldsLinks : Address → List ℕ → Type 0
HoldsLinks at slot = packet_of slot ≡ Links at.mag (links_of at.mag slot)

abbrev pub HoldsNoLinks : Packet → Type 0
HoldsNoLinks (Links mag content) = ⊥
HoldsNoLinks _ = Unit {0}

-- whether the latest header of the page's magazine is the page's after this packet
abbrev pub mine_after : Id → Packet → Bool → Bool
mine_after page packet mine = if heads page.mag packet then heads_page page packet else mine

-- whether the packet is a transmission of the item
abbrev pub sends : Id → Item → Packet → Bool → Bool
sends page TheHead packet mine = heads_page page packet
sends page (TheRow r) packet mine = carries page.mag (TheRow r) packet && mine
sends page TheLinks packet mine = carries page.mag TheLinks packet && mine

abbrev pub is_mine : Option PageOwner → Bool
is_mine None = false
is_mine (Some owner) = owner.mine

abbrev pub is_number_of : Item → Option ℕ → Bool
is_number_of item None = false
is_number_of item (Some number) = item_number item == number

abbrev pub heads_other_subpage : Id → Packet → Bool
heads_other_subpage page packet = heads_matched (AnySub page.mag page.page) packet && not (heads_page page packet)

abbrev pub compared_item : Check → Item
compared_item EraseBit = TheHead
compared_item CheckHead = TheHead
compared_item (CheckRow r) = TheRow r
compared_item CheckLinks = TheLinks

-- what the slot sends of the item differs from the page
abbrev pub IsWrong : Page → Check → List ℕ → Type 0
IsWrong p EraseBit slot = erases_page (packet_of slot) ≡ true
IsWrong p CheckHead slot = IsLikeHead p (packet_of slot) → ⊥
IsWrong p (CheckRow r) slot = RowIsRight p r (packet_of slot) → ⊥
IsWrong p CheckLinks slot = LinksAreRight p slot (packet_of slot) → ⊥

pub record WrongAt (s : Stream) (p : Page) (check : Check) (j : ℤ) : Type 0 where
  pub sent : IsTransmission s p.id (compared_item check) j
  pub wrong : IsWrong p check (s j)

-- a header of the page's number with another subcode
pub record OtherHeaderAt (s : Stream) (page : Id) (j : ℤ) : Type 0 where
  pub number : heads_matched (AnySub page.mag page.page) (packet_of (s j)) ≡ true
  pub other : heads_page page (packet_of (s j)) ≡ false
