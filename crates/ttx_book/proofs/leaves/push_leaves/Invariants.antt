use Rattle.std.proofs.Common.{◌≡◌, ◌++◌, drop, string_bytes}
use Rattle.ttx_book.specs.Books.{leaves_html}
use Rattle.ttx_book.proofs.leaves.push_leaves.Given as goal

abbrev pub invariant-loop-id : goal.invariant-loop-id
invariant-loop-id l =
    string_bytes l.text ++ leaves_html l.slots l.pages l.former (drop l.id-index l.ids) ≡ string_bytes l.initial.text
    ++ leaves_html l.slots l.pages 0 l.ids
