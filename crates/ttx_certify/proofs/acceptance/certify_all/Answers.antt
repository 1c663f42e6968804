use Rattle.std.proofs.Common.{refl, arith}
use Rattle.std.proofs.lemmas.Result.{IfOk-weaker}
use Rattle.ttx_cycle.specs.Cycles.{slots_of, slots_of-IsCycle}
use Rattle.ttx_certify.specs.AllReasons.{AreReasons}
use Rattle.ttx_certify.specs.Verdicts.{IsVerdict, Means}
use Rattle.ttx_certify.specs.walks.Passing.{second_pages, second_certificate}
use Rattle.ttx_certify.proofs.WalkVerdicts.{walked_same, for_same}
use Rattle.ttx_certify.proofs.acceptance.certify_all.Goals as goal

pub returns-clause-exact : goal.returns-clause-exact
returns-clause-exact c =
    let y = slots_of c.args.cycle.now in
    let walked = c.in_ok-second.ensures in
    IfOk-weaker c.finish_all.result _ _ (λ all judged. for_same walked.pages walked.certificate (λ ps w. IsVerdict y ps w all.verdict)
    (walked_same y (let s = (slots_of-IsCycle c.args.cycle.now).some in omega arith) (second_pages c.in_ok-second.second)
    (second_certificate c.in_ok-second.second) all.verdict (judged y y walked.stands))) c.finish_all.ensures.verdict

pub returns-clause-seen : goal.returns-clause-seen
returns-clause-seen c =
    let y = slots_of c.args.cycle.now in
    let walked = c.in_ok-second.ensures in
    IfOk-weaker c.finish_all.result _ _ (λ all seen. for_same walked.pages walked.certificate (λ ps w. Means y ps w all.verdict)
    (seen y y walked.stands)) c.finish_all.ensures.seen

pub returns-clause-reasons : goal.returns-clause-reasons
returns-clause-reasons c =
    let y = slots_of c.args.cycle.now in
    let walked = c.in_ok-second.ensures in
    IfOk-weaker c.finish_all.result _ _ (λ all told. for_same walked.pages walked.certificate (λ ps w. AreReasons y ps w all.pages.items)
    (told y y walked.stands (record {
      some = let s = (slots_of-IsCycle c.args.cycle.now).some in omega arith;
      few = let m = (slots_of-IsCycle c.args.cycle.now).most in omega arith;
      owners = λ i p at. refl;
    }))) c.finish_all.ensures.reasons
