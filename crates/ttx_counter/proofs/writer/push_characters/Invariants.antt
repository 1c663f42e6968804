use Rattle.std.proofs.Common.{◌≡◌, ◌++◌, drop, string_bytes}
use Rattle.ttx_counter.specs.CounterTexts.{numbers_text}
use Rattle.ttx_counter.proofs.writer.push_characters.Given as goal

abbrev pub invariant-loop-character : goal.invariant-loop-character
invariant-loop-character l = string_bytes l.text ++ numbers_text (drop l.character-index l.row) ≡ string_bytes l.initial.text ++ numbers_text l.row
