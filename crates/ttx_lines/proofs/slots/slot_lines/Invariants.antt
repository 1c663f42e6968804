use Rattle.std.proofs.Common.{◌≡◌, ◌++◌, drop, string_bytes}
use Rattle.ttx_lines.specs.Lines.{lines_from}
use Rattle.ttx_lines.proofs.slots.slot_lines.Given as goal

abbrev pub invariant-loop-at : goal.invariant-loop-at
invariant-loop-at l = string_bytes l.text ++ lines_from l.at (drop l.at l.slots) ≡ lines_from 0 l.slots
