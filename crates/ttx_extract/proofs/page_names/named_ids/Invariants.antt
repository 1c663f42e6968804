use Rattle.std.proofs.Common.{◌≡◌}
use Rattle.ttx_cycle.specs.Cycles.{slots_of}
use Rattle.ttx_extract.specs.NamedPages.{named_after}
use Rattle.ttx_extract.proofs.page_names.named_ids.Given as goal

abbrev pub invariant-loop-j : goal.invariant-loop-j
invariant-loop-j l = l.ids.keys ≡ named_after (slots_of l.cycle) l.j
