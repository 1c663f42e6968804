use Rattle.std.proofs.Common.{◌≡◌, ◌++◌}
use Rattle.toml.specs.View.{members_view}
use Rattle.ttx_mistakes.specs.Mistakes as rule
use Rattle.ttx_mistakes.specs.MistakeViews.{mistake_views}
use Rattle.ttx_mistakes.proofs.page_parts.push_wrong_keys.Given as goal

abbrev pub invariant-loop-key : goal.invariant-loop-key
invariant-loop-key l = mistake_views l.found.items ++ rule.wrong_keys l.page (members_view l.key-iterator)
    ≡ mistake_views l.initial.found.items ++ rule.wrong_keys l.page (members_view l.rows.entries)
