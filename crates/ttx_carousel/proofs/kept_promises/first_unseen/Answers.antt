use Rattle.std.proofs.Common.{arith}
use Rattle.ttx_carousel.proofs.JudgedWaits.{more_fields, all_fields, has_fields}
use Rattle.ttx_carousel.proofs.kept_promises.first_unseen.Goals as goal

pub loop-one-preserved : goal.loop-one-preserved
loop-one-preserved c =
    more_fields c.args.all.now c.loop-one.one-index c.one-item.result (omega arith) c.one-item.is
    (has_fields c.one-item.result.told.wait c.in-Fields.fields c.in-Fields.item c.in-Fields.is) c.loop-one.invariant

pub returns : goal.returns
returns c = all_fields c.args.all.now c.loop-one.one-index (omega arith) c.loop-one.invariant
