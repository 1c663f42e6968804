use Rattle.std.proofs.Common.{◌≡◌, ◌++◌, drop, length, string_bytes}
use Rattle.ttx_failure.specs.Choices.{choice_items}
use Rattle.ttx_failure.proofs.choices.push_choice_items.Given as goal

abbrev pub invariant-loop-taken : goal.invariant-loop-taken
invariant-loop-taken l =
    string_bytes l.text ++ choice_items l.form l.own l.tuned.slots.now (length l.tuned.slots.now) l.tuned.lines l.tuned.start (drop l.taken-index l.all)
    ≡ string_bytes l.initial.text ++ choice_items l.form l.own l.tuned.slots.now (length l.tuned.slots.now) l.tuned.lines l.tuned.start l.all
