use Rattle.std.proofs.Common.{arith}
use Rattle.ttx_archive.proofs.Found as L
use Rattle.ttx_archive.proofs.digests.find_text.Goals as goal

pub loop-filed-init : goal.loop-filed-init
loop-filed-init c k d none inside = absurd (omega (arith, none))

pub returns-then-eq : goal.returns-then-eq
returns-then-eq c =
    L.found c.args.archive.now c.args.digest.now c.loop-filed.filed-index c.filed-item.result c.loop-filed-test.true c.filed-item.is
    c.as_str.result.now c.as_str.ensures.value c.if-eq.ensures

pub loop-filed-preserved : goal.loop-filed-preserved
loop-filed-preserved c =
    L.others c.args.archive.now c.args.digest.now c.loop-filed.filed-index c.filed-item.result c.loop-filed-test.true c.filed-item.is
    c.as_str.result.now c.as_str.ensures.value c.if-eq.ensures c.loop-filed.invariant

pub returns : goal.returns
returns c =
    let past = c.loop-filed-test.false in
    L.none_found c.args.archive.now c.args.digest.now c.loop-filed.filed-index (omega (arith, past)) c.loop-filed.invariant
