use Rattle.std.proofs.Common.{◌≡◌, ◌++◌, drop, string_bytes}
use Rattle.ttx_carousel.specs.StayLines.{stay_lines}
use Rattle.ttx_carousel.proofs.lines.stay_lines.Given as goal

abbrev pub invariant-loop-short : goal.invariant-loop-short
invariant-loop-short l = string_bytes l.text ++ stay_lines (drop l.short-index l.numbers) ≡ stay_lines l.numbers
