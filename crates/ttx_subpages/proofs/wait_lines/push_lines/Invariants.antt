use Rattle.std.proofs.Common.{◌≡◌, ◌++◌, drop, string_bytes}
use Rattle.ttx_subpages.specs.NumberWaits.{number_waits_text}
use Rattle.ttx_subpages.proofs.wait_lines.push_lines.Given as goal

abbrev pub invariant-loop-one : goal.invariant-loop-one
invariant-loop-one l = record {
  whole : string_bytes l.text ++ number_waits_text l.lines (drop l.one-index l.reports)
      ≡ string_bytes l.initial.text ++ number_waits_text l.lines l.reports;
}
