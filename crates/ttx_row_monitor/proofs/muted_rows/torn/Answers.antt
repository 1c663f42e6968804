use Rattle.std.proofs.Common.{◌≡◌, arith, subst}
use Rattle.ttx_row_monitor.proofs.TornRows.{IsTornTo, torn_first, torn_next, torn_slot, torn_near, torn_wrong}
use Rattle.ttx_row_monitor.proofs.muted_rows.torn.Goals as goal

pub loop-x-init : goal.loop-x-init
loop-x-init c = torn_first c.args.sent.now c.requires.size

pub loop-x-preserved : goal.loop-x-preserved
loop-x-preserved c = torn_next c.args.sent.now c.loop-x.packet c.loop-x.x (omega arith) (omega arith) c.loop-x.invariant c.flipped.result c.flipped.ensures

pub returns-clause-slot : goal.returns-clause-slot
returns-clause-slot c =
    let end : c.loop-x.x ≡ 42 = omega arith in
    torn_slot c.args.sent.now c.loop-x.packet c.requires (subst (IsTornTo c.args.sent.now c.loop-x.packet) end c.loop-x.invariant)

pub returns-clause-near : goal.returns-clause-near
returns-clause-near c =
    let end : c.loop-x.x ≡ 42 = omega arith in
    torn_near c.args.sent.now c.loop-x.packet c.requires (subst (IsTornTo c.args.sent.now c.loop-x.packet) end c.loop-x.invariant)

pub returns-clause-wrong : goal.returns-clause-wrong
returns-clause-wrong c =
    let end : c.loop-x.x ≡ 42 = omega arith in
    torn_wrong c.args.sent.now c.loop-x.packet c.requires (subst (IsTornTo c.args.sent.now c.loop-x.packet) end c.loop-x.invariant)
