use Rattle.std.proofs.Common.{◌≡◌, ◌++◌, drop, string_bytes}
use Rattle.ttx_pages.specs.Lines.{quoted_text}
use Rattle.ttx_pages.proofs.lines.push_characters.Given as goal

abbrev pub invariant-loop-byte : goal.invariant-loop-byte
invariant-loop-byte l = string_bytes l.text ++ quoted_text (drop l.byte-index l.bytes) ≡ string_bytes l.initial.text ++ quoted_text l.bytes
