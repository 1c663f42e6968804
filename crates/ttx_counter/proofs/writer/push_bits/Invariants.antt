use Rattle.std.proofs.Common.{◌≡◌, ◌++◌, drop, string_bytes}
use Rattle.ttx_counter.specs.CounterTexts.{numbers_text, bits}
use Rattle.ttx_counter.proofs.writer.push_bits.Given as goal

abbrev pub invariant-loop-choice : goal.invariant-loop-choice
invariant-loop-choice l = string_bytes l.text ++ numbers_text (bits (drop l.choice-index l.choices)) ≡ string_bytes l.initial.text
    ++ numbers_text (bits l.choices)
