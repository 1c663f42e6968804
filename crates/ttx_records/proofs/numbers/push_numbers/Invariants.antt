use Rattle.std.proofs.Common.{◌≡◌, ◌++◌, drop, string_bytes}
use Rattle.ttx_records.specs.NumberRecords.{number_records}
use Rattle.ttx_records.proofs.numbers.push_numbers.Given as goal

abbrev pub invariant-loop-report : goal.invariant-loop-report
invariant-loop-report l =
    string_bytes l.text ++ number_records l.every (drop l.report-index l.reports) ≡ string_bytes l.initial.text ++ number_records l.every l.reports
