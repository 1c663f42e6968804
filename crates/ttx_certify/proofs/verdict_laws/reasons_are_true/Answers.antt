use Rattle.ttx_certify.proofs.TrueReasons.{reasons_are_true}
use Rattle.ttx_certify.proofs.verdict_laws.reasons_are_true.Goals as goal

pub returns : goal.returns
returns c = reasons_are_true (record
    { steady = c.steady_has_no_fault.ensures; decided = c.coverage_is_decided.ensures; judged = c.items_are_judged.ensures })
