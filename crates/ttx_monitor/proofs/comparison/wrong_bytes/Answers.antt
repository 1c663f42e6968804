use Rattle.std.proofs.Common.{◌+◌, sym, ap, ◌∙◌, arith}
use Rattle.ttx_monitor.specs.Totals.{is_wrong}
use Rattle.ttx_monitor.proofs.WrongBytes.{none_before, passed, failed, differs_at, same_at}
use Rattle.ttx_monitor.proofs.comparison.wrong_bytes.Goals as goal
use Rattle.ttx_monitor.proofs.comparison.wrong_bytes.Goals.{then-received-x, else-received-x}

pub loop-x-init : goal.loop-x-init
loop-x-init c = record { few = omega arith; counted = sym (none_before (is_wrong c.args.sent.now c.args.received.now)) }

pub loop-x-preserved : goal.loop-x-preserved
loop-x-preserved c =
    let s = c.args.sent.now in
    let r = c.args.received.now in
    let x = c.loop-x.x in
    let inv = c.loop-x.invariant in
    let few = inv.few in
    record {
      few = elim c.if-received-x.branch [
        | then-received-x q ↦ let e = q.wrong-is in omega arith
        | else-received-x q ↦ let e = q.wrong-is in omega arith
      ];
      counted = elim c.if-received-x.branch [
        | then-received-x q ↦ q.wrong-is ∙ ap (λ k. k + 1) inv.counted ∙ sym (passed (is_wrong s r) x (differs_at s r x q.if-received-x.true))
        | else-received-x q ↦ q.wrong-is ∙ inv.counted ∙ sym (failed (is_wrong s r) x (same_at s r x q.if-received-x.false))
      ];
    }
