-- What a receiver reads in a slot.
--
--   IsIgnored               a packet that does not change what a receiver holds
--   LendsPacket             the bytes lent from a slot are those of its packet
--   names_magazine, names_packet_0        the magazine and packet number in bytes 0 and 1, if they are readable
use Rattle.std.specs.Prelude.{◌≡◌, ◌≤◌, ℕ, Bool, true, false, ◌==◌, drop, Option, Some, None}
use Rattle.ttx_header.specs.Headers.{is_header, id_of, control_of}
use Rattle.ttx_links.specs.Sets.{links_of}
use Rattle.ttx_packet.specs.Slots.{magazine, packet_number}
use Rattle.ttx_page.specs.Packets.{Packet, Header, Row, Links}
use Rattle.ttx_receiver.specs.declared.packets.Packet.{Packet as Lent}
use Rattle.ttx_receiver.specs.declared.packets.Packet.TheVariants.{Header as TheHeader, Row as TheRow, Links as TheLinks, Nothing}

-- neither a page header nor a row nor an X/27/0
abbrev pub IsIgnored : Packet → Type 0
IsIgnored (Header id control text) = ⊥
IsIgnored (Row mag number text) = ⊥
IsIgnored (Links mag content) = ⊥
IsIgnored _ = Unit {0}

abbrev pub LendsPacket : Lent → Packet → Type 0
LendsPacket (TheHeader bytes) packet = (is_header bytes.now ≡ true) × (packet ≡ Header (id_of bytes.now) (control_of bytes.now) (drop 10 bytes.now))
LendsPacket (TheRow at text) packet = (at.number ≤ 24) × (packet ≡ Row at.mag at.number text.now)
LendsPacket (TheLinks at bytes) packet = packet ≡ Links at.mag (links_of at.mag bytes.now)
LendsPacket Nothing packet = IsIgnored packet

-- whether byte 0 names the magazine
abbrev pub names_magazine : ℕ → Option ℕ → Bool
names_magazine mag None = false
names_magazine mag (Some low) = magazine low == mag

-- whether the address names packet 0
abbrev pub names_packet_0 : Option ℕ → Option ℕ → Bool
names_packet_0 None high = false
names_packet_0 (Some low) None = false
names_packet_0 (Some low) (Some high) = packet_number low high == 0
