use Rattle.std.proofs.Common.{◌≡◌, ◌++◌, drop, length, string_bytes}
use Rattle.ttx_failure.specs.Hits.{hit_items}
use Rattle.ttx_failure.proofs.hits.push_hit_items.Given as goal

abbrev pub invariant-loop-hit : goal.invariant-loop-hit
invariant-loop-hit l =
    string_bytes l.text ++ hit_items l.form l.tuned.slots.now (length l.tuned.slots.now) l.tuned.lines l.tuned.start (drop l.hit-index l.hits)
    ≡ string_bytes l.initial.text ++ hit_items l.form l.tuned.slots.now (length l.tuned.slots.now) l.tuned.lines l.tuned.start l.hits
