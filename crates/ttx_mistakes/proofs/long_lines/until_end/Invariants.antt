use Rattle.std.proofs.Common.{◌≡◌, ◌++◌, drop, take}
use Rattle.ttx_mistakes.specs.LongLines as rule
use Rattle.ttx_mistakes.proofs.long_lines.until_end.Given as goal

abbrev pub invariant-loop-index : goal.invariant-loop-index
invariant-loop-index l = take l.index l.bytes ++ rule.until_end (drop l.index l.bytes) ≡ rule.until_end l.bytes
