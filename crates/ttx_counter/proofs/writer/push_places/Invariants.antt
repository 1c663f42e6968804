use Rattle.std.proofs.Common.{◌≡◌, ◌++◌, drop, string_bytes}
use Rattle.ttx_counter.specs.CounterTexts.{numbers_text, hits_numbers}
use Rattle.ttx_counter.proofs.writer.push_places.Given as goal

abbrev pub invariant-loop-hit : goal.invariant-loop-hit
invariant-loop-hit l = string_bytes l.text ++ numbers_text (hits_numbers (drop l.hit-index l.hits)) ≡ string_bytes l.initial.text
    ++ numbers_text (hits_numbers l.hits)
