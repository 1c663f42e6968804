use Rattle.std.proofs.Common.{◌≡◌, ◌++◌, drop, filter, map}
use Rattle.ttx_places.specs.Positions.{begins_character}
use Rattle.ttx_mistakes.specs.LongLines as rule
use Rattle.ttx_mistakes.proofs.long_lines.push_blanks.Given as goal

abbrev pub invariant-loop-code : goal.invariant-loop-code
invariant-loop-code l = l.text.items ++ map rule.blank (filter begins_character (drop l.code-index l.line))
    ≡ l.initial.text.items ++ map rule.blank (filter begins_character l.line)
