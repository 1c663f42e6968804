use Rattle.std.proofs.Common.{◌≡◌, ◌++◌, ◌+◌, drop, []}
use Rattle.toml.specs.View.{items_view}
use Rattle.ttx_mistakes.specs.Mistakes as rule
use Rattle.ttx_mistakes.specs.MistakeViews.{mistake_views}
use Rattle.ttx_mistakes.proofs.mistake_list.push_pages.Given as goal

abbrev pub invariant-loop-index : goal.invariant-loop-index
invariant-loop-index l = mistake_views l.found.items ++ rule.pages_mistakes (l.index + 1) l.earlier.items (items_view (drop l.index l.values))
    ≡ mistake_views l.initial.found.items ++ rule.pages_mistakes 1 [] (items_view l.values)
