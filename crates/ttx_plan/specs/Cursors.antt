-- The cursors of the scheduler, and the slot that follows from them.
use Rattle.std.specs.Prelude.{ℕ, ◌+◌, Bool, false, not, ◌&&◌, if◌then◌else◌, List, [], Option, Some, None, Vec, map, nat_lt, slice_get, slice_index}
use Rattle.std.specs.Prelude.{slice_index_or, slice_set, find}
use Rattle.std.specs.declared.alloc.Global.{Global}
use Rattle.ttx_plan.specs.Packets.{is_row_or_links, is_page_header}
use Rattle.ttx_plan.specs.declared.packet.Packet.{Packet}
use Rattle.ttx_plan.specs.declared.packet.Slot.{Slot}
use Rattle.ttx_plan.specs.declared.packet.Slot.TheVariants.{Empty, Info, Sent}
use Rattle.ttx_plan.specs.Turns.{Magazines, order, sending}
use Rattle.ttx_plan.specs.declared.cursors.Cursors.{Cursors}

-- the lists of the queues
abbrev pub lists_of : List (Vec Packet Global) → List (List Packet)
lists_of queues = map (λ v. v.items) queues

abbrev pub queue_at : List (Vec Packet Global) → ℕ → List Packet
queue_at queues queue = slice_index_or (lists_of queues) queue []

abbrev pub offered : Option Packet → Bool → Bool
offered None waiting = false
offered (Some packet) waiting = not (is_row_or_links packet.kind && waiting)

abbrev pub is_free : List (Vec Packet Global) → Cursors → ℕ → ℕ → Bool
is_free queues cursors at queue = offered (slice_get (queue_at queues queue) (slice_index cursors.sent queue))
    (nat_lt at (slice_index cursors.free_at queue))

-- the cursors after the magazine's packet went into slot `at`
abbrev pub cursors_past : Cursors → ℕ → Packet → ℕ → ℕ → Cursors
cursors_past cursors queue packet lines at = record {
  sent = slice_set cursors.sent queue (slice_index cursors.sent queue + 1);
  free_at = if is_page_header packet.kind then slice_set cursors.free_at queue (at + lines + 1) else cursors.free_at;
  from = queue + 1;
}

abbrev pub picked : List (Vec Packet Global) → Cursors → Option ℕ → Slot
picked queues cursors None = Empty
picked queues cursors (Some queue) = sending queue (slice_get (queue_at queues queue) (slice_index cursors.sent queue))

-- the contents of slot `at`, from the cursors
abbrev pub slot_by_cursors : List (Vec Packet Global) → Cursors → ℕ → Slot
slot_by_cursors queues cursors at = picked queues cursors (find (is_free queues cursors at) (order cursors.from))

-- the cursors after a slot
abbrev pub cursors_after : Cursors → ℕ → ℕ → Slot → Cursors
cursors_after cursors lines at Empty = cursors
cursors_after cursors lines at (Info bytes) = cursors
cursors_after cursors lines at (Sent queue packet) = cursors_past cursors queue packet lines at

abbrev pub magazines_of : ℕ → Option (List ℕ) → List (Vec Packet Global) → Magazines
magazines_of lines info queues = record { lines = lines; info = info; queues = lists_of queues }
