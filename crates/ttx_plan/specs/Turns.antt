-- Parallel transmission (profile): the rule of turns, between a slot and the slots before it, which are given latest first. Magazine
-- queues are counted from 0: queue 0 is that of magazine 1.
--
--   Magazines, queue_of     what is to be sent
--   sent_by, next_of        how many packets of a queue have been sent, and its next one
--   waits, is_ready         a row or X/27/0 waits for a field after its page header; a queue with a packet that does not wait
--   turn_from, order        the queue that is tried first, and the order of the others
--   next_slot               the slot of the queue that sends next
--   is_info_due, or_info    packet 8/30 at each multiple of 50 fields
--   slot_after, KeepsTurns  the rule at one slot, and at every slot
--   missing, IsParallel     the whole cycle
use Rattle.std.specs.Prelude.{◌≡◌, ℕ, zero, suc, ◌+◌, ◌-◌, ◌*◌, ◌%◌, ◌<◌, Bool, true, false, not, ◌&&◌, if◌then◌else◌, List, [], ◌∷◌, ◌++◌, length}
use Rattle.std.specs.Prelude.{◌==◌, slice_get, slice_index_or, take, replicate, Option, Some, None, find}
use Rattle.std.specs.List.{list_any}
use Rattle.ttx_plan.specs.declared.packet.Packet.{Packet}
use Rattle.ttx_plan.specs.declared.packet.Slot.{Slot}
use Rattle.ttx_plan.specs.declared.packet.Slot.TheVariants.{Empty, Info, Sent}
use Rattle.ttx_plan.specs.Packets.{sent_bytes, has_header, is_row_or_links}

-- the lines of a field, packet 8/30 if there is one, and the packets of the eight magazines
pub record Magazines : Type 0 where
  pub lines : ℕ
  pub info : Option (List ℕ)
  pub queues : List (List Packet)

-- the packets of a queue
abbrev pub queue_of : Magazines → ℕ → List Packet
queue_of mags queue = slice_index_or mags.queues queue []

-- how many packets of a queue have been sent
abbrev pub sent_by : ℕ → List Slot → ℕ
sent_by queue [] = 0
sent_by queue (Empty ∷ before) = sent_by queue before
sent_by queue (Info bytes ∷ before) = sent_by queue before
sent_by queue (Sent n packet ∷ before) = if n == queue then suc (sent_by queue before) else sent_by queue before

-- the queue's next packet
abbrev pub next_of : Magazines → ℕ → List Slot → Option Packet
next_of mags queue before = slice_get (queue_of mags queue) (sent_by queue before)

-- a row or X/27/0 waits while one of the last field's slots holds a page header of its magazine
abbrev pub waits : Magazines → ℕ → List Slot → Packet → Bool
waits mags queue before packet = is_row_or_links packet.kind && list_any (has_header queue) (take mags.lines before)

abbrev pub may_go : Magazines → ℕ → List Slot → Option Packet → Bool
may_go mags queue before None = false
may_go mags queue before (Some packet) = not (waits mags queue before packet)

-- the queue has a packet left that does not wait
abbrev pub is_ready : Magazines → List Slot → ℕ → Bool
is_ready mags before queue = may_go mags queue before (next_of mags queue before)

-- the queue that is tried first: the one after the queue that sent last, 0 at the beginning (8 is 0 again)
abbrev pub turn_from : List Slot → ℕ
turn_from [] = 0
turn_from (Empty ∷ before) = turn_from before
turn_from (Info bytes ∷ before) = turn_from before
turn_from (Sent queue packet ∷ before) = suc queue

-- n values of f, from s on
abbrev pub steps : (ℕ → ℕ) → ℕ → ℕ → List ℕ
steps f s zero = []
steps f s (suc n) = f s ∷ steps f (suc s) n

-- the eight queues, rising from a first one and round
abbrev pub order : ℕ → List ℕ
order from = steps (λ k. (from + k) % 8) 0 8

-- a slot that holds the packet, if there is one
abbrev pub sending : ℕ → Option Packet → Slot
sending queue None = Empty
sending queue (Some packet) = Sent queue packet

-- a slot that holds the next packet of the queue, if there is one
abbrev pub chosen : Magazines → List Slot → Option ℕ → Slot
chosen mags before None = Empty
chosen mags before (Some queue) = sending queue (next_of mags queue before)

-- the first queue that is ready sends; if none is, the slot is empty
abbrev pub next_slot : Magazines → List Slot → Slot
next_slot mags before = chosen mags before (find (is_ready mags before) (order (turn_from before)))

-- packet 8/30 is due in every fiftieth field, in its first line
abbrev pub is_info_due : ℕ → ℕ → Bool
is_info_due lines at = at % (50 * lines) == 0

-- packet 8/30 if it is due, otherwise this slot
abbrev pub or_info : Option (List ℕ) → Bool → Slot → Slot
or_info None due slot = slot
or_info (Some bytes) due slot = if due then Info bytes else slot

-- the contents of the slot after these
abbrev pub slot_after : Magazines → List Slot → Slot
slot_after mags before = or_info mags.info (is_info_due mags.lines (length before)) (next_slot mags before)

-- the rule holds at every slot
abbrev pub KeepsTurns : Magazines → List Slot → Type 0
KeepsTurns mags [] = Unit {0}
KeepsTurns mags (slot ∷ before) = (slot ≡ slot_after mags before) × KeepsTurns mags before

-- the latest slot holds a packet of a queue
abbrev pub ends_sent : List Slot → Bool
ends_sent [] = false
ends_sent (Empty ∷ before) = false
ends_sent (Info bytes ∷ before) = false
ends_sent (Sent queue packet ∷ before) = true

-- how many slots are missing to the end of a field
abbrev pub missing : ℕ → ℕ → ℕ
missing lines n = (lines - n % lines) % lines

-- The cycle sends all packets in turns, up to the last of them, and then empty slots to the end of a field.
pub record IsParallel (mags : Magazines) (cycle : List (List ℕ)) : Type 0 where
  pub before : List Slot
  pub turns : KeepsTurns mags before
  pub all_sent : (queue : ℕ) → queue < 8 → sent_by queue before ≡ length (queue_of mags queue)
  pub ends : ends_sent before ≡ true
  pub cycle_is : cycle ≡ sent_bytes before ++ replicate (missing mags.lines (length before)) (replicate 42 0)
