use Rattle.std.proofs.Common.{sym, subst}
use Rattle.ttx_cycle.specs.Counters.{inner_of}
use Rattle.ttx_cycle.specs.Cycles.{slots_of, slots_of-IsCycle}
use Rattle.ttx_source.specs.Services.{pages_of}
use Rattle.ttx_certificate.specs.Certificates.{certificate_of}
use Rattle.ttx_monitor.specs.FeedVerdicts.{IsFoundIn, BeginsAt}
use Rattle.ttx_monitor.specs.Watching.{watched}
use Rattle.ttx_monitor.proofs.HeardFeeds.{if_known, judged}
use Rattle.ttx_monitor.proofs.feed_verdict.watch.Goals as goal

pub returns-clause-bytes : goal.returns-clause-bytes
returns-clause-bytes g c =
    let inputs = c.args.inputs.now in
    let cycle = slots_of inputs.cycle in
    let pages = pages_of inputs.service in
    let cert = certificate_of inputs.certificate in
    let start = c.in_ok-begun.begun.start in
    if_known _ _ (g.R.Read.remaining (inner_of c.args.feed.now)) (λ bytes b are.
    judged cycle pages cert c.args.named bytes c.verdict_of.result
    (subst (IsFoundIn cycle bytes) c.in_default.is b.found)
    (subst (BeginsAt cycle bytes c.args.named) (sym c.verdict_of.ensures.start) b.begins)
    (c.verdict_of.ensures.is cycle pages cert bytes (slots_of-IsCycle inputs.cycle) are
    (c.certificates_keep_their_rules.ensures inputs.certificate).1
    (c.in_ok-heard.ensures.heard (watched cycle pages cert.repeat start) bytes b.stands b.left)))
    c.in_ok-begun.ensures.bytes

pub returns-in-Some-clause-bytes : goal.returns-in-Some-clause-bytes
returns-in-Some-clause-bytes g c =
    let inputs = c.args.inputs.now in
    if_known _ _ (g.R.Read.remaining (inner_of c.args.feed.now)) (λ bytes b are. subst (IsFoundIn (slots_of inputs.cycle) bytes) c.in-Some.is b.found)
    c.in_ok-begun.ensures.bytes
