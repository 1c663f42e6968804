use Rattle.std.proofs.Common.{◌≡◌, ◌++◌, drop, string_bytes}
use Rattle.ttx_partial.specs.Lines.{left_lines}
use Rattle.ttx_partial.proofs.partial_lines.push_all.Given as goal

abbrev pub invariant-loop-page : goal.invariant-loop-page
invariant-loop-page l = string_bytes l.text ++ left_lines (drop l.page-index l.left) ≡ string_bytes l.fn.text ++ left_lines l.left
