use Rattle.std.proofs.Common.{◌≡◌, ◌++◌, drop, map, string_bytes}
use Rattle.ttx_promise.specs.PromisedLines.{items_text}
use Rattle.ttx_promise.proofs.promised_lines.push_lines_of_items.Given as goal

abbrev pub invariant-loop-index : goal.invariant-loop-index
invariant-loop-index l = record {
  whole : string_bytes l.text ++ items_text (drop l.index l.all) (drop l.index (map (λ told. told.items) l.items))
      ≡ string_bytes l.initial.text ++ items_text l.all (map (λ told. told.items) l.items);
}
