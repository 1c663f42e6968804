use Rattle.std.proofs.Common.{◌≡◌, ◌++◌, drop}
use Rattle.ttx_mistakes.specs.LongLines as rule
use Rattle.ttx_mistakes.specs.PlacedViews.{placed_views}
use Rattle.ttx_mistakes.proofs.long_lines.push_placed.Given as goal

abbrev pub invariant-loop-placed : goal.invariant-loop-placed
invariant-loop-placed l = l.text.items ++ rule.placed_texts l.paper.long l.paper.file.now l.paper.bytes.now (placed_views (drop l.placed-index l.found))
    ≡ l.initial.text.items ++ rule.placed_texts l.paper.long l.paper.file.now l.paper.bytes.now (placed_views l.found)
