use Rattle.std.proofs.Common.{arith}
use Rattle.ttx_cycle.specs.Cycles.{slots_of, slots_of-IsCycle}
use Rattle.ttx_certify.specs.Verdicts.{IsVerdict, Means}
use Rattle.ttx_certify.specs.walks.Passing.{second_pages, second_certificate}
use Rattle.ttx_certify.proofs.WalkVerdicts.{walked_same, for_same}
use Rattle.ttx_certify.proofs.acceptance.certify.Goals as goal

pub returns-clause-exact : goal.returns-clause-exact
returns-clause-exact c =
    let y = slots_of c.args.cycle.now in
    let walked = c.in_ok-second.ensures in
    for_same walked.pages walked.certificate (λ ps w. IsVerdict y ps w c.finish.result)
    (walked_same y (let s = (slots_of-IsCycle c.args.cycle.now).some in omega arith) (second_pages c.in_ok-second.second)
    (second_certificate c.in_ok-second.second) c.finish.result (c.finish.ensures.verdict y y walked.stands))

pub returns-clause-seen : goal.returns-clause-seen
returns-clause-seen c =
    let y = slots_of c.args.cycle.now in
    let walked = c.in_ok-second.ensures in
    for_same walked.pages walked.certificate (λ ps w. Means y ps w c.finish.result) (c.finish.ensures.seen y y walked.stands)
