-- Cycles whose headers of a page number are time-filling ones.
--
--   same_number, is_numbered        two pages have one number; a packet is a header of a page's number
--   time_filled             a header with page number FF, which is no page's (EN 300 706, 9.3.1)
--   slot_aside, aside       a slot, and all slots, with such a header in the place of each of the page's number
use Rattle.std.specs.Prelude.{ℕ, Bool, false, ◌&&◌, ◌==◌, if◌then◌else◌, List, map, slice_set}
use Rattle.ttx_header.specs.Ids.{Id}
use Rattle.ttx_page.specs.Packets.{Packet, Header, packet_of}

abbrev pub same_number : Id → Id → Bool
same_number page other = (page.mag == other.mag) && (page.page == other.page)

abbrev pub is_numbered : Id → Packet → Bool
is_numbered page (Header id control text) = same_number page id
is_numbered page packet = false

-- EA is the code word of F, and stands for both digits
abbrev pub time_filled : List ℕ → List ℕ
time_filled slot = slice_set (slice_set slot 2 0xea) 3 0xea

abbrev pub slot_aside : Id → List ℕ → List ℕ
slot_aside page slot = if is_numbered page (packet_of slot) then time_filled slot else slot

abbrev pub aside : Id → List (List ℕ) → List (List ℕ)
aside page slots = map (slot_aside page) slots
