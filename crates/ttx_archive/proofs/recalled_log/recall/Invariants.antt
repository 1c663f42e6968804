use Rattle.std.proofs.Common.{map}
use Rattle.ttx_archive.specs.Archives.{text_of}
use Rattle.ttx_archive.proofs.Recalled.{AreRecalled}
use Rattle.ttx_archive.proofs.recalled_log.recall.Given as goal

abbrev pub invariant-loop-entry : goal.invariant-loop-entry
invariant-loop-entry l = AreRecalled (map text_of l.archive) l.entries l.entry-index l.told.items
