use Rattle.ttx_certify.proofs.OneVerdict.{verdicts_are_one}
use Rattle.ttx_certify.proofs.verdict_laws.verdicts_are_one.Goals as goal

pub returns : goal.returns
returns c = verdicts_are_one (record
    { steady = c.steady_has_no_fault.ensures; decided = c.coverage_is_decided.ensures; judged = c.items_are_judged.ensures })
