use Rattle.std.proofs.Common.{◌≡◌, ◌++◌, drop, string_bytes}
use Rattle.ttx_check.specs.WarningLines.{warning_lines}
use Rattle.ttx_check.proofs.warning_lines.push_warnings.Given as goal

abbrev pub invariant-loop-warning : goal.invariant-loop-warning
invariant-loop-warning l = string_bytes l.text ++ warning_lines (drop l.warning-index l.warnings) ≡ string_bytes l.initial.text
    ++ warning_lines l.warnings
