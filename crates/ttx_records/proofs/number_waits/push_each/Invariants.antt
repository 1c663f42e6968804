use Rattle.std.proofs.Common.{◌≡◌, ◌++◌, drop, string_bytes}
use Rattle.ttx_records.specs.NumberWaits.{number_wait_records}
use Rattle.ttx_records.proofs.number_waits.push_each.Given as goal

abbrev pub invariant-loop-report : goal.invariant-loop-report
invariant-loop-report l =
    string_bytes l.text ++ number_wait_records l.lines (drop l.report-index l.reports)
    ≡ string_bytes l.initial.text ++ number_wait_records l.lines l.reports
