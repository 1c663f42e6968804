use Rattle.std.proofs.Common.{◌≡◌, ◌++◌, drop, map}
use Rattle.toml.specs.View.{table_view}
use Rattle.ttx_mistakes.specs.Mistakes as rule
use Rattle.ttx_mistakes.specs.MistakeViews.{mistake_views}
use Rattle.ttx_mistakes.proofs.page_parts.push_texts.Given as goal

abbrev pub invariant-loop-key : goal.invariant-loop-key
invariant-loop-key l = mistake_views l.found.items ++ rule.text_mistakes l.page (table_view l.rows) (map (λ k. k.now) (drop l.key-index l.keys))
    ≡ mistake_views l.initial.found.items ++ rule.text_mistakes l.page (table_view l.rows) (map (λ k. k.now) l.keys)
