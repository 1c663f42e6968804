-- The lines of `inspect`, one a slot.
--
--   slot_line, lines_from    the line of a slot, and those of slots one after another
--   packet_line            the line of a packet with these fields
--   slot_text              what a line says of its slot
--   header_text, link_fields_text, info_text    the fields of a page header, a packet X/27/0 and a packet 8/30
--   corrected_mark         the mark of a slot that isn't clean
use Rattle.std.specs.Prelude.{ℕ, ◌+◌, List, [], ◌∷◌, ◌++◌, codes, Option, Some, None, Result, Ok, Err, if◌then◌else◌}
use Rattle.std.specs.Fmt.{decimal}
use Rattle.ttx_packet.specs.Slots.{Kind, kind_of, is_clean, IsEmpty, IsUnreadable, IsHeader, IsRow, IsLinks, IsInfo, IsOther}
use Rattle.ttx_header.specs.Ids.{Id}
use Rattle.ttx_digits.specs.ControlNames.{control_text}
use Rattle.ttx_header.specs.Headers.{id_of, control_of}
use Rattle.ttx_links.specs.Sets.{LinkSet, links_of}
use Rattle.ttx_info.specs.Infos.{InfoFields, info_of}
use Rattle.ttx_info.specs.declared.faults.InfoFault.{InfoFault}
use Rattle.ttx_info.specs.declared.faults.InfoFault.TheVariants.{Designation, Hamming, Digit, Parity}
use Rattle.ttx_digits.specs.PageIds.{id_text}
use Rattle.ttx_lines.specs.Texts.{link_ids_text, date_text, time_text}

-- magazine, packet number and kind
abbrev pub packet_text : ℕ → ℕ → List ℕ → List ℕ
packet_text mag number kind = decimal mag ++ 47 ∷ decimal number ++ 32 ∷ kind

-- the page's id, and the control bits that are set, C4 first
abbrev pub header_text : Id → ℕ → List ℕ
header_text id control = 32 ∷ id_text id ++ control_text control

-- the six links, and whether row 24 is shown
abbrev pub link_fields_text : Option LinkSet → List ℕ
link_fields_text None = codes " unreadable"
link_fields_text (Some set) = link_ids_text set.six ++ (if set.show24 then codes " row24" else [])

-- the number of a fault of a packet 8/30
abbrev pub number_of_fault : InfoFault → ℕ
number_of_fault Designation = 1
number_of_fault Hamming = 2
number_of_fault Digit = 3
number_of_fault Parity = 4

-- date and time, or why they aren't read
abbrev pub info_text : Result InfoFields InfoFault → List ℕ
info_text (Ok info) = 32 ∷ date_text info.mjd ++ 32 ∷ time_text info.utc
info_text (Err fault) = codes " fault " ++ decimal (number_of_fault fault)

-- nothing where the slot is clean
abbrev pub corrected_mark : List ℕ → List ℕ
corrected_mark s = if is_clean s then [] else codes " corrected"

-- the slot's number, the packet, its fields, and the mark where it isn't clean
abbrev pub packet_line : ℕ → List ℕ → List ℕ → List ℕ → List ℕ
packet_line slot packet fields s = decimal slot ++ 32 ∷ packet ++ fields ++ corrected_mark s ++ 10 ∷ []

-- the packet, its fields, and the mark where it isn't clean
abbrev pub slot_text : List ℕ → Kind → List ℕ
slot_text s IsEmpty = codes "empty"
slot_text s IsUnreadable = codes "unreadable"
slot_text s (IsHeader mag) = packet_text mag 0 (codes "header") ++ header_text (id_of s) (control_of s) ++ corrected_mark s
slot_text s (IsRow mag number) = packet_text mag number (codes "row") ++ corrected_mark s
slot_text s (IsLinks mag) = packet_text mag 27 (codes "links") ++ link_fields_text (links_of mag s) ++ corrected_mark s
slot_text s IsInfo = packet_text 8 30 (codes "info") ++ info_text (info_of s) ++ corrected_mark s
slot_text s (IsOther mag number) = packet_text mag number (codes "other") ++ corrected_mark s

-- the slot's number and a space before it, 0A after it
abbrev pub slot_line : ℕ → List ℕ → List ℕ
slot_line at s = decimal at ++ 32 ∷ slot_text s (kind_of s) ++ 10 ∷ []

-- the lines of slots, the first of which is slot `at`
abbrev pub lines_from : ℕ → List (List ℕ) → List ℕ
lines_from at [] = []
lines_from at (s ∷ ss) = slot_line at s ++ lines_from (at + 1) ss
