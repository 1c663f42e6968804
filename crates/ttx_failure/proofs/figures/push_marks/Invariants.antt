use Rattle.std.proofs.Common.{◌≡◌, ◌++◌, drop, string_bytes}
use Rattle.ttx_failure.specs.Figures.{marks_html}
use Rattle.ttx_failure.proofs.figures.push_marks.Given as goal

abbrev pub invariant-loop-number : goal.invariant-loop-number
invariant-loop-number l =
    string_bytes l.text ++ marks_html l.own l.number (drop l.number l.shown) ≡ string_bytes l.initial.text ++ marks_html l.own 0 l.shown
