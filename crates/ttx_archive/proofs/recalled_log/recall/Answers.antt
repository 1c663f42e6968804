use Rattle.std.proofs.Common.{map}
use Rattle.ttx_archive.specs.Archives.{text_of}
use Rattle.ttx_archive.proofs.Recalled as L
use Rattle.ttx_archive.proofs.recalled_log.recall.Goals as goal

pub returns-in-Err-clause-lost : goal.returns-in-Err-clause-lost
returns-in-Err-clause-lost c =
    L.lost (map text_of c.args.archive.now) c.args.entries.now c.loop-entry.entry-index _ c.loop-entry.told.items c.add.new.told.items c.in-Err.fault
    c.loop-entry-test.true c.in-Err.ensures

pub loop-entry-preserved : goal.loop-entry-preserved
loop-entry-preserved c =
    L.recalled (map text_of c.args.archive.now) c.args.entries.now c.loop-entry.entry-index _ c.loop-entry.told.items c.add.new.told.items
    c.loop-entry-test.true c.in_default.ensures c.loop-entry.invariant
