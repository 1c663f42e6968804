-- The state of a slot reader: `given_of`, `is_over`.
use Rattle.std.specs.Prelude.{ℕ, Bool}
use Rattle.ttx_cycle.specs.declared.slot_reader.SlotReader.{SlotReader}

-- how many slots it has returned
abbrev pub given_of : SlotReader → ℕ
given_of reader = reader.given

-- it returns no more slots: the file ended, or a fault was returned
abbrev pub is_over : SlotReader → Bool
is_over reader = reader.is_over
