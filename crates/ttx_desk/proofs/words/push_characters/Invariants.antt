use Rattle.std.proofs.Common.{◌≡◌, ◌++◌, drop, string_bytes, flat_map, encode_utf8}
use Rattle.ttx_desk.proofs.words.push_characters.Given as goal

abbrev pub invariant-loop-c : goal.invariant-loop-c
invariant-loop-c l = string_bytes l.text ++ flat_map encode_utf8 (drop l.c-index l.characters) ≡ string_bytes l.initial.text ++ flat_map encode_utf8 l.characters
