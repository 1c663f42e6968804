use Rattle.std.proofs.Common.{arith, map}
use Rattle.ttx_carousel.specs.Waiting.{told_of, IsInTime}
use Rattle.ttx_carousel.proofs.StaysOfNumbers.{more_promises, all_promises}
use Rattle.ttx_carousel.proofs.kept_promises.first_late.Goals as goal

pub loop-promise-preserved : goal.loop-promise-preserved
loop-promise-preserved c =
    more_promises (IsInTime (map told_of c.args.all.now)) c.args.promises.now c.loop-promise.promise-index _ (omega arith)
    c.loop-promise.invariant c.in_default.ensures

pub returns : goal.returns
returns c =
    all_promises (IsInTime (map told_of c.args.all.now)) c.args.promises.now c.loop-promise.promise-index (omega arith) c.loop-promise.invariant
