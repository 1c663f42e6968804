use Rattle.std.proofs.Common.{◌≡◌, ◌++◌, drop, string_bytes}
use Rattle.ttx_mistakes.specs.PlacedViews.{placed_views}
use Rattle.ttx_mistake_records.specs.Records.{placed_records}
use Rattle.ttx_mistake_records.proofs.records.push_each.Given as goal

abbrev pub invariant-loop-placed : goal.invariant-loop-placed
invariant-loop-placed l =
    string_bytes l.text ++ placed_records l.paper.file.now l.paper.bytes.now (placed_views (drop l.placed-index l.found))
    ≡ string_bytes l.initial.text ++ placed_records l.paper.file.now l.paper.bytes.now (placed_views l.found)
