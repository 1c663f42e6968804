use Rattle.std.proofs.Common.{◌≡◌, ◌++◌, drop, string_bytes}
use Rattle.ttx_records.specs.ItemWaits.{item_records}
use Rattle.ttx_records.proofs.item_waits.push_items.Given as goal

abbrev pub invariant-loop-one : goal.invariant-loop-one
invariant-loop-one l =
    string_bytes l.text ++ item_records l.page (drop l.one-index l.items) ≡ string_bytes l.initial.text ++ item_records l.page l.items
