-- Serial transmission (profile).
--
--   serial_page, serial_block, serial_list          what is sent, without packet 8/30
--   info_if, with_info      packet 8/30 inserted
--   to_whole_field, serial_slots    the whole cycle
use Rattle.std.specs.Prelude.{◌≡◌, ℕ, ◌+◌, true, Bool, if◌then◌else◌, List, [], ◌∷◌, ◌++◌, map, length, flat_map, replicate, Option, Some, None}
use Rattle.ttx_plan.specs.declared.packet.Slot.{Slot}
use Rattle.ttx_plan.specs.declared.packet.Slot.TheVariants.{Empty, Info, Sent}
use Rattle.ttx_plan.specs.Blocks.{Block, header_packet, rest_packet, filler_of, used_queues, time_filling_packet}
use Rattle.ttx_plan.specs.Packets.{bytes_of}
use Rattle.ttx_plan.specs.Turns.{is_info_due, missing}

-- a block's page: its page header, an empty field, its rows and X/27/0
abbrev pub serial_page : ℕ → Block → List Slot
serial_page lines block =
    Sent block.queue (header_packet block.header) ∷ (replicate lines Empty ++ map (λ bytes. Sent block.queue (rest_packet bytes)) block.rest)

-- the same after its time-filling header, if it has one
abbrev pub serial_block : ℕ → Block → List Slot
serial_block lines block = map (Sent block.queue) (filler_of true block) ++ serial_page lines block

-- the blocks, and one time-filling header of each magazine that has pages
abbrev pub serial_list : ℕ → List Block → List Slot
serial_list lines sent = flat_map (serial_block lines) sent ++ map (λ queue. Sent queue (time_filling_packet true queue)) (used_queues sent)

-- packet 8/30, if there is one and it is due
abbrev pub info_if : Option (List ℕ) → Bool → List Slot
info_if None due = []
info_if (Some bytes) due = if due then Info bytes ∷ [] else []

-- the slots from place `at` on, with packet 8/30 inserted before each slot whose place is due
abbrev pub with_info : ℕ → Option (List ℕ) → ℕ → List Slot → List Slot
with_info lines info at [] = []
with_info lines info at (slot ∷ rest) =
    let first = info_if info (is_info_due lines at) in
    first ++ slot ∷ with_info lines info (at + length first + 1) rest

-- these slots are the list with packet 8/30 inserted
pub record IsLaid (lines : ℕ) (info : Option (List ℕ)) (list : List Slot) (slots : List (List ℕ)) : Type 0 where
  pub slots_are : slots ≡ map bytes_of (with_info lines info 0 list)

-- with empty slots to the end of a field
abbrev pub to_whole_field : ℕ → List Slot → List Slot
to_whole_field lines slots = slots ++ replicate (missing lines (length slots)) Empty

-- the cycle of these blocks
abbrev pub serial_slots : ℕ → Option (List ℕ) → List Block → List Slot
serial_slots lines info sent = to_whole_field lines (with_info lines info 0 (serial_list lines sent))
