use Rattle.std.proofs.Common.{◌≡◌, ◌++◌, drop, string_bytes}
use Rattle.ttx_report.specs.Waits.{wait_rows}
use Rattle.ttx_report.proofs.waits.push_rows.Given as goal

abbrev pub invariant-loop-one : goal.invariant-loop-one
invariant-loop-one l = string_bytes l.text ++ wait_rows (drop l.one-index l.all) ≡ string_bytes l.initial.text ++ wait_rows l.all
