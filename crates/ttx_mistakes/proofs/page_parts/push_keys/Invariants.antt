use Rattle.std.proofs.Common.{◌≡◌, ◌++◌, drop}
use Rattle.toml.specs.View.{table_view}
use Rattle.ttx_mistakes.specs.Mistakes as rule
use Rattle.ttx_mistakes.specs.MistakeViews.{mistake_views}
use Rattle.ttx_mistakes.proofs.page_parts.push_keys.Given as goal

abbrev pub invariant-loop-key : goal.invariant-loop-key
invariant-loop-key l = mistake_views l.found.items ++ rule.key_mistakes l.page (table_view l.table) (drop l.key-index l.keys)
    ≡ mistake_views l.initial.found.items ++ rule.key_mistakes l.page (table_view l.table) l.keys
