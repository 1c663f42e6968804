use Rattle.std.proofs.Common.{sym, subst}
use Rattle.ttx_cycle.specs.Counters.{inner_of}
use Rattle.ttx_cycle.specs.Cycles.{slots_of}
use Rattle.ttx_source.specs.Services.{pages_of}
use Rattle.ttx_certificate.specs.Certificates.{certificate_of}
use Rattle.ttx_monitor.specs.FeedVerdicts.{IsFoundIn, BeginsAt}
use Rattle.ttx_monitor.specs.Watching.{watched}
use Rattle.ttx_monitor.proofs.HeardFeeds.{if_known}
use Rattle.ttx_row_monitor.proofs.HeardByRows.{judged}
use Rattle.ttx_row_monitor.proofs.feed_verdict.watch.Goals as goal

pub returns-clause-bytes : goal.returns-clause-bytes
returns-clause-bytes g c =
    let inputs = c.args.inputs.now in
    let cycle = slots_of inputs.cycle in
    let pages = pages_of inputs.service in
    let cert = certificate_of inputs.certificate in
    if_known _ _ (g.R.Read.remaining (inner_of c.args.feed.now)) (λ bytes b are.
    judged cycle pages cert c.args.named bytes c.verdict_of.result
    (subst (IsFoundIn cycle bytes) c.in_default.is b.found)
    (subst (BeginsAt cycle bytes c.args.named) (sym c.verdict_of.ensures.start) b.begins)
    (c.verdict_of.ensures.is pages cert bytes are (c.certificates_keep_their_rules.ensures inputs.certificate).1
    (c.in_ok-heard.ensures.heard (watched cycle pages cert.repeat _) bytes c.in-Ok.ensures b.left)))
    c.in_ok-start.ensures.bytes

pub returns-in-Some-clause-bytes : goal.returns-in-Some-clause-bytes
returns-in-Some-clause-bytes g c =
    let inputs = c.args.inputs.now in
    if_known _ _ (g.R.Read.remaining (inner_of c.args.feed.now)) (λ bytes b are. subst (IsFoundIn (slots_of inputs.cycle) bytes) c.in-Some.is b.found)
    c.in_ok-start.ensures.bytes
