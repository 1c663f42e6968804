-- What the first header and the first packet 8/30 of a cycle say.
--
--   slot_info, first_info    the packet 8/30 format 1 of a slot; the first of a cycle
--   header_serial, first_serial    C11 of a header; of the first header of a cycle
use Rattle.std.specs.Prelude.{ℕ, Bool, false, List, [], ◌∷◌, Option, Some, None, Result, Ok}
use Rattle.ttx_packet.specs.Slots.{Kind, kind_of, IsInfo}
use Rattle.ttx_header.specs.Control.{c11}
use Rattle.ttx_info.specs.Infos.{InfoFields, info_of}
use Rattle.ttx_info.specs.declared.faults.InfoFault.{InfoFault}
use Rattle.ttx_page.specs.Packets.{Packet, Header, packet_of}

abbrev pub read_fields : Kind → Result InfoFields InfoFault → Option InfoFields
read_fields IsInfo (Ok fields) = Some fields
read_fields kind result = None

unfoldable pub slot_info : List ℕ → Option InfoFields
slot_info slot = read_fields (kind_of slot) (info_of slot)

abbrev pub info_or : Option InfoFields → Option InfoFields → Option InfoFields
info_or None b = b
info_or (Some a) b = Some a

unfoldable pub first_info : List (List ℕ) → Option InfoFields
first_info [] = None
first_info (slot ∷ slots) = info_or (slot_info slot) (first_info slots)

-- C11 of a header
abbrev pub header_serial : Packet → Option Bool
header_serial (Header id control text) = Some (c11 control)
header_serial packet = None

abbrev pub serial_or : Option Bool → Bool → Bool
serial_or None b = b
serial_or (Some a) b = a

-- C11 of the first header, and clear where there is none
unfoldable pub first_serial : List (List ℕ) → Bool
first_serial [] = false
first_serial (slot ∷ slots) = serial_or (header_serial (packet_of slot)) (first_serial slots)
