-- How much is left to send.
use Rattle.std.specs.Prelude.{ℕ, zero, suc, ◌+◌, List, [], ◌∷◌, drop, if◌then◌else◌}
use Rattle.ttx_plan.specs.declared.packet.Slot.{Slot}
use Rattle.ttx_plan.specs.Packets.{is_page_header}
use Rattle.ttx_plan.specs.Turns.{Magazines, queue_of, sent_by}
use Rattle.ttx_plan.specs.declared.packet.Packet.{Packet}

abbrev pub sum_to : ℕ → (ℕ → ℕ) → ℕ
sum_to zero f = 0
sum_to (suc n) f = sum_to n f + f n

-- the slots that packets take, with a field for each block in which its rows wait
abbrev pub slots_for : ℕ → List Packet → ℕ
slots_for lines [] = 0
slots_for lines (packet ∷ rest) = (if is_page_header packet.kind then suc lines else 1) + slots_for lines rest

abbrev pub left_in : Magazines → List Slot → ℕ → List Packet
left_in mags before queue = drop (sent_by queue before) (queue_of mags queue)
