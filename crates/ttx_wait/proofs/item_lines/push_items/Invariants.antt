use Rattle.std.proofs.Common.{◌≡◌, ◌++◌, drop, string_bytes}
use Rattle.ttx_wait.specs.WaitLines.{item_lines}
use Rattle.ttx_wait.proofs.item_lines.push_items.Given as goal

abbrev pub invariant-loop-one : goal.invariant-loop-one
invariant-loop-one l = record {
  whole : string_bytes l.text ++ item_lines l.page (drop l.one-index l.items)
      ≡ string_bytes l.initial.text ++ item_lines l.page l.items;
}
