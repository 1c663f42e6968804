use Rattle.std.proofs.Common.{Ok, Err, inr, sym, ap, subst}
use Rattle.ttx_cycle.specs.Counters.{inner_of}
use Rattle.ttx_cycle.specs.Cycles.{slots_of, slots_of-IsCycle}
use Rattle.ttx_source.specs.Services.{pages_of}
use Rattle.ttx_certificate.specs.Certificates.{certificate_of}
use Rattle.ttx_certify.specs.Laws.{ArePages}
use Rattle.ttx_certify.proofs.PageByPage.{are_pages}
use Rattle.ttx_monitor.specs.Watching.{watched}
use Rattle.ttx_monitor.specs.FeedVerdicts.{IsFoundIn}
use Rattle.ttx_monitor.specs.Followed.{telling_of, Follows}
use Rattle.ttx_monitor.specs.FeedReports.{telling_for, ReportsFrom}
use Rattle.ttx_monitor.proofs.HeardFeeds.{if_known}
use Rattle.ttx_monitor.proofs.ReportedFeeds.{failed}
use Rattle.ttx_monitor.proofs.report.report_feed_in.Goals as goal

pub returns-in-Err-follow-clause-bytes : goal.returns-in-Err-follow-clause-bytes
returns-in-Err-follow-clause-bytes g c =
    let inputs = c.args.inputs.now in
    let cycle = slots_of inputs.cycle in
    let pages = pages_of inputs.service in
    let cert = certificate_of inputs.certificate in
    let start = c.in-Ok.begun.start in
    let old = g.W.Write.contents (inner_of c.args.writer.now) in
    let new = g.W.Write.contents (inner_of c.follow.new.writer) in
    let w = watched cycle pages cert.repeat start in
    if_known _ _ (g.R.Read.remaining (inner_of c.args.feed.now)) (λ bytes b. inr (inr (
      start,
      subst (IsFoundIn cycle bytes) c.in_default.is b.found,
      b.begins,
      failed cycle pages cert bytes (telling_for g.V.Wording.words cycle pages cert c.args.asked start) old new c.follow.new.following c.in-Err-follow.fault
          (subst (λ h. Follows w bytes h c.follow.new.following old new (Err c.in-Err-follow.fault)) (c.how_of-how.ensures g.V.Wording.words)
          (c.in-Err-follow.ensures.told w bytes b.stands b.left b.none)),
    )))
    c.in-Ok.ensures.bytes

pub returns-clause-bytes : goal.returns-clause-bytes
returns-clause-bytes g c =
    let inputs = c.args.inputs.now in
    let cycle = slots_of inputs.cycle in
    let pages = pages_of inputs.service in
    let cert = certificate_of inputs.certificate in
    let start = c.in-Ok.begun.start in
    let old = g.W.Write.contents (inner_of c.args.writer.now) in
    let mid = g.W.Write.contents (inner_of c.follow.new.writer) in
    let new = g.W.Write.contents (inner_of c.conclude.new.writer) in
    let are = subst ArePages c.pages-pages.ensures.value (are_pages c.pages_keep_their_rules.ensures c.pages-pages.result.now) in
    if_known _ _ (g.R.Read.remaining (inner_of c.args.feed.now)) (λ bytes b. inr (inr (
      start,
      subst (IsFoundIn cycle bytes) c.in_default.is b.found,
      b.begins,
      subst (λ h. ReportsFrom cycle pages cert bytes h old new c.conclude.result) (c.how_of-how.ensures g.V.Wording.words)
          (c.conclude.ensures.bytes cycle pages cert bytes old (slots_of-IsCycle inputs.cycle) are
          (c.certificates_keep_their_rules.ensures inputs.certificate).1
          (subst (λ s. Follows (watched cycle pages cert.repeat s) bytes (telling_of g.V.Wording.words c.how_of-how.result) c.follow.new.following old mid
          (Ok c.in-Ok-follow.followed)) (sym (ap (λ t. t.start) (c.how_of-how.ensures g.V.Wording.words)))
          (c.in-Ok-follow.ensures.told (watched cycle pages cert.repeat start) bytes b.stands b.left b.none))),
    )))
    c.in-Ok.ensures.bytes
