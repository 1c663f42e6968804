use Rattle.std.proofs.Common.{◌≡◌, ◌++◌, drop, string_bytes}
use Rattle.ttx_subpages.specs.NumberReports.{numbers_text}
use Rattle.ttx_subpages.proofs.number_lines.push_lines.Given as goal

abbrev pub invariant-loop-one : goal.invariant-loop-one
invariant-loop-one l = record {
  whole : string_bytes l.text ++ numbers_text l.most (drop l.one-index l.reports) ≡ string_bytes l.initial.text ++ numbers_text l.most l.reports;
}
