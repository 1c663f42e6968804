use Rattle.std.proofs.Common.{◌≡◌, ◌++◌, drop, map}
use Rattle.ttx_mistakes.specs.LongLines as rule
use Rattle.ttx_mistakes.proofs.long_lines.push_visible.Given as goal

abbrev pub invariant-loop-code : goal.invariant-loop-code
invariant-loop-code l = l.text.items ++ map rule.visible (drop l.code-index l.line) ≡ l.initial.text.items ++ map rule.visible l.line
