-- What a slot means to a receiver: the kind of its packet, with the fields that receivers use.
--
--   Packet, packet_of       the packet in the 42 bytes of a slot
use Rattle.std.specs.Prelude.{ℕ, List, Option, drop}
use Rattle.ttx_packet.specs.Slots.{Kind, IsEmpty, IsUnreadable, IsHeader, IsRow, IsLinks, IsInfo, IsOther, kind_of}
use Rattle.ttx_header.specs.Ids.{Id}
use Rattle.ttx_header.specs.Headers.{id_of, control_of}
use Rattle.ttx_links.specs.Sets.{LinkSet, links_of}

-- An empty slot, an unreadable slot, or a packet. The text is the bytes from the first character on, as they are sent. The content
-- of an X/27/0 is None if one of bytes 3 to 39 is unreadable.
pub data Packet : Type 0 where
  Empty : Packet
  Unreadable : Packet
  Header : (id : Id) (control : ℕ) (text : List ℕ) → Packet
  Row : (mag number : ℕ) (text : List ℕ) → Packet
  Links : (mag : ℕ) (content : Option LinkSet) → Packet
  Info : Packet
  Other : Packet

-- the packet of a slot of a known kind
abbrev pub packet_of_kind : List ℕ → Kind → Packet
packet_of_kind slot IsEmpty = Empty
packet_of_kind slot IsUnreadable = Unreadable
packet_of_kind slot (IsHeader mag) = Header (id_of slot) (control_of slot) (drop 10 slot)
packet_of_kind slot (IsRow mag number) = Row mag number (drop 2 slot)
packet_of_kind slot (IsLinks mag) = Links mag (links_of mag slot)
packet_of_kind slot IsInfo = Info
packet_of_kind slot (IsOther mag number) = Other

-- the packet in a slot
unfoldable pub packet_of : List ℕ → Packet
packet_of slot = packet_of_kind slot (kind_of slot)
