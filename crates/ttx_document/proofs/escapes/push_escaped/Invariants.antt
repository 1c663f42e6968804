use Rattle.std.proofs.Common.{◌≡◌, ◌++◌, flat_map, string_bytes}
use Rattle.std.specs.Str.{IsUtf8, chars}
use Rattle.std.specs.Str.Iter.{chars_rest}
use Rattle.ttx_document.specs.Escapes.{escaped, escaped_text}
use Rattle.ttx_document.proofs.escapes.push_escaped.Given as goal

abbrev pub invariant-loop-code : goal.invariant-loop-code
invariant-loop-code l = record {
  spelled : IsUtf8 (chars_rest l.code-iterator);
  text : string_bytes l.text ++ flat_map escaped (chars (chars_rest l.code-iterator)) ≡ string_bytes l.initial.text ++ escaped_text l.words;
}
