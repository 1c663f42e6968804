use Rattle.std.proofs.Common.{◌≡◌, ◌++◌, drop, map, string_bytes}
use Rattle.ttx_records.specs.ItemWaits.{both_records}
use Rattle.ttx_records.proofs.item_waits.push_both.Given as goal

abbrev pub invariant-loop-index : goal.invariant-loop-index
invariant-loop-index l =
    string_bytes l.text ++ both_records (drop l.index l.told) (drop l.index (map (λ told. told.items) l.all))
    ≡ string_bytes l.initial.text ++ both_records l.told (map (λ told. told.items) l.all)
