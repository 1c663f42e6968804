-- The slots of a cycle: `slots_of`.
use Rattle.std.specs.Prelude.{ℕ, List}
use Rattle.ttx_cycle.specs.Files.{IsCycle}
use Rattle.ttx_cycle.specs.declared.cycles.Cycle.{Cycle}

-- the slots of a cycle
abbrev pub slots_of : Cycle → List (List ℕ)
slots_of cycle = cycle.slots.items

-- they are 1 to 65,536 slots of 42 bytes
pub slots_of-IsCycle : (cycle : Cycle) → IsCycle (slots_of cycle)
slots_of-IsCycle cycle = cycle.is_cycle
