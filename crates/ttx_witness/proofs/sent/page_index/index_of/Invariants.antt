use Rattle.std.proofs.Common.{nat_eq}
use Rattle.std.specs.HashMap.{get}
use Rattle.ttx_page.specs.Views.{ids_of}
use Rattle.ttx_witness.proofs.lemmas.sent.PageIndexes.{IsIndexed}
use Rattle.ttx_witness.proofs.sent.page_index.index_of.Given as goal

abbrev pub invariant-loop-i : goal.invariant-loop-i
invariant-loop-i l = record { indexed : IsIndexed (ids_of l.pages) l.i (get nat_eq l.by_key) }
