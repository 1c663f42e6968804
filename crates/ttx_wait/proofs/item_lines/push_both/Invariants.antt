use Rattle.std.proofs.Common.{◌≡◌, ◌++◌, drop, map, string_bytes}
use Rattle.ttx_wait.specs.WaitLines.{both_lines}
use Rattle.ttx_wait.proofs.item_lines.push_both.Given as goal

abbrev pub invariant-loop-index : goal.invariant-loop-index
invariant-loop-index l = record {
  whole : string_bytes l.text ++ both_lines (drop l.index l.told) (drop l.index (map (λ told. told.items) l.all))
      ≡ string_bytes l.initial.text ++ both_lines l.told (map (λ told. told.items) l.all);
}
