-- Packets with what the scheduler has to know of them, and the slots of a cycle. Magazine queues are counted from 0: queue 0 is that of
-- magazine 1.
--
--   is_page_header, is_row_or_links     the kind of a packet
--   holds_packet, has_header     a slot with a packet of a queue; a slot with the page header of a block of this queue
--   bytes_of, sent_bytes    the bytes of a slot, and of slots
use Rattle.std.specs.Prelude.{ℕ, Bool, true, false, List, [], ◌∷◌, ◌++◌, ◌==◌, ◌&&◌, replicate}
use Rattle.ttx_plan.specs.declared.packet.Kind.{Kind}
use Rattle.ttx_plan.specs.declared.packet.Kind.TheVariants.{PageHeader, RowOrLinks, TimeFilling}
use Rattle.ttx_plan.specs.declared.packet.Slot.{Slot}
use Rattle.ttx_plan.specs.declared.packet.Slot.TheVariants.{Empty, Info, Sent}

-- the page header of a block
abbrev pub is_page_header : Kind → Bool
is_page_header PageHeader = true
is_page_header RowOrLinks = false
is_page_header TimeFilling = false

-- a row or X/27/0 of a block
abbrev pub is_row_or_links : Kind → Bool
is_row_or_links PageHeader = false
is_row_or_links RowOrLinks = true
is_row_or_links TimeFilling = false

-- the slot holds a packet of a queue
abbrev pub holds_packet : Slot → Bool
holds_packet Empty = false
holds_packet (Info bytes) = false
holds_packet (Sent queue packet) = true

-- the slot holds the page header of a block of this queue
abbrev pub has_header : ℕ → Slot → Bool
has_header queue Empty = false
has_header queue (Info bytes) = false
has_header queue (Sent n packet) = (n == queue) && is_page_header packet.kind

-- the 42 bytes of a slot
abbrev pub bytes_of : Slot → List ℕ
bytes_of Empty = replicate 42 0
bytes_of (Info bytes) = bytes
bytes_of (Sent queue packet) = packet.bytes

-- the bytes of slots, in the order of sending; the slots are given latest first
abbrev pub sent_bytes : List Slot → List (List ℕ)
sent_bytes [] = []
sent_bytes (slot ∷ before) = sent_bytes before ++ bytes_of slot ∷ []
