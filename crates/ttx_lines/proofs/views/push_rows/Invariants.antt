use Rattle.std.proofs.Common.{◌≡◌, ◌++◌, drop, string_bytes}
use Rattle.ttx_lines.specs.ViewLines.{rows_from}
use Rattle.ttx_lines.proofs.views.push_rows.Given as goal

abbrev pub invariant-loop-number : goal.invariant-loop-number
invariant-loop-number l = string_bytes l.text ++ rows_from l.number (drop l.number l.rows) ≡ string_bytes l.initial.text ++ rows_from 0 l.rows
