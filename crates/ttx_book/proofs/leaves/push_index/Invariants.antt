use Rattle.std.proofs.Common.{◌≡◌, ◌++◌, drop, string_bytes}
use Rattle.ttx_book.specs.Books.{index_html}
use Rattle.ttx_book.proofs.leaves.push_index.Given as goal

abbrev pub invariant-loop-header : goal.invariant-loop-header
invariant-loop-header l = string_bytes l.text ++ index_html (drop l.header-index l.headers)
    ≡ string_bytes l.initial.text ++ index_html l.headers
