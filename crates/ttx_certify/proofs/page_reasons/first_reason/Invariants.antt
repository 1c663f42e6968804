use Rattle.std.proofs.Common.{ℕ, List}
use Rattle.ttx_certify.specs.ItemReasons.{judged_page, judged_certificate, IsReasonBelow, IsReadyAt}
use Rattle.ttx_certify.proofs.page_reasons.first_reason.Given as goal

abbrev pub invariant-loop-number : goal.invariant-loop-number
invariant-loop-number l = (y : List (List ℕ)) → IsReadyAt l.ended l.index l.judged y →
    IsReasonBelow y (judged_page l.judged) (judged_certificate l.judged) l.number l.first
