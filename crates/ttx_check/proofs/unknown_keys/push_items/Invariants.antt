use Rattle.std.proofs.Common.{◌≡◌, ◌++◌, drop, map, string_bytes}
use Rattle.toml.specs.View.{items_view}
use Rattle.ttx_page.specs.Views.{page_of}
use Rattle.ttx_check.specs.UnknownKeys.{items_lines}
use Rattle.ttx_check.proofs.unknown_keys.push_items.Given as goal

abbrev pub invariant-loop-index : goal.invariant-loop-index
invariant-loop-index l = string_bytes l.text ++ items_lines (items_view (drop l.index l.values)) (map page_of (drop l.index l.pages))
    ≡ string_bytes l.initial.text ++ items_lines (items_view l.values) (map page_of l.pages)
