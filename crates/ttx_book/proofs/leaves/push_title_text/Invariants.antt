use Rattle.std.proofs.Common.{◌≡◌, ◌++◌, drop, string_bytes}
use Rattle.ttx_book.specs.Books.{title_text}
use Rattle.ttx_book.proofs.leaves.push_title_text.Given as goal

abbrev pub invariant-loop-byte : goal.invariant-loop-byte
invariant-loop-byte l = string_bytes l.text ++ title_text l.option (drop l.byte-index l.bytes)
    ≡ string_bytes l.initial.text ++ title_text l.option l.bytes
