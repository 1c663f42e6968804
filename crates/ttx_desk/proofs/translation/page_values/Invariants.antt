use Rattle.std.proofs.Common.{◌≡◌, ◌+◌, ◌++◌, map, take, drop}
use Rattle.toml.specs.View.{view, items_view}
use Rattle.ttx_desk.specs.Services.{page_value, pages_mistakes}
use Rattle.ttx_desk.proofs.translation.page_values.Given as goal

abbrev pub invariant-loop-index : goal.invariant-loop-index
invariant-loop-index l = record {
  values : map view l.out.items ≡ map (λ value. page_value (view value)) (take l.index l.values);
  noted : l.mistakes.items ++ pages_mistakes (l.index + 1) (items_view (drop l.index l.values))
      ≡ l.initial.mistakes.items ++ pages_mistakes 1 (items_view l.values);
}
