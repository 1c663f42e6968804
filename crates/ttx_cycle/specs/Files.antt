-- Packet files (this project's own format: the packets of EN 300 706, end to end).
--
--   file_of    the bytes of a packet file
--   IsCycle    the slots of a cycle
--   IsPacketFile    the bytes are the packet file of a cycle
use Rattle.std.specs.Prelude.{◌≡◌, ℕ, ◌<◌, ◌≤◌, List, length, All}
use Rattle.std.specs.List.{flat_map}
use Rattle.ttx_packet.specs.Slots.{IsSlot}

-- the slots end to end, slot 0 first
abbrev pub file_of : List (List ℕ) → List ℕ
file_of slots = flat_map (λ slot. slot) slots

-- 1 to 65,536 slots
pub record IsCycle (slots : List (List ℕ)) : Type 0 where
  pub some : 0 < length slots
  pub most : length slots ≤ 65536
  pub each : All IsSlot slots

-- the bytes are the packet file of these slots
pub record IsPacketFile (bytes : List ℕ) (slots : List (List ℕ)) : Type 0 where
  pub is_cycle : IsCycle slots
  pub same : bytes ≡ file_of slots
