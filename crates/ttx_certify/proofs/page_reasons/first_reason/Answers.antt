use Rattle.std.proofs.Common.{◌+◌, sym, subst}
use Rattle.ttx_certify.specs.ItemReasons.{judged_page, judged_certificate, IsReasonBelow}
use Rattle.ttx_certify.proofs.ItemByItem.{reason_more}
use Rattle.ttx_certify.proofs.page_reasons.first_reason.Goals as goal

pub loop-number-preserved : goal.loop-number-preserved
loop-number-preserved c = λ y at.
    let p = judged_page c.args.judged.now in let w = judged_certificate c.args.judged.now in
    subst (IsReasonBelow y p w (c.loop-number.number + 1)) (sym c.told_first-first.ensures)
    (reason_more y p w c.loop-number.number c.loop-number.first c.reason_at-next.result.1 (c.loop-number.invariant y at)
    (c.reason_at-next.ensures y at))
