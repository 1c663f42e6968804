use Rattle.std.proofs.Common.{◌≡◌, ◌++◌, drop, string_bytes, flat_map}
use Rattle.ttx_desk.specs.Words.{sign_text}
use Rattle.ttx_desk.proofs.words.push_signs.Given as goal

abbrev pub invariant-loop-c : goal.invariant-loop-c
invariant-loop-c l = string_bytes l.text ++ flat_map sign_text (drop l.c-index l.signs) ≡ string_bytes l.initial.text ++ flat_map sign_text l.signs
