use Rattle.std.proofs.Common.{sym, subst}
use Rattle.std.specs.Prelude.{IfSome}
use Rattle.ttx_cycle.specs.Counters.{inner_of}
use Rattle.ttx_cycle.specs.Cycles.{slots_of}
use Rattle.ttx_monitor.specs.FeedReports.{ReportsFeed}
use Rattle.ttx_source.specs.Services.{pages_of}
use Rattle.ttx_certificate.specs.Certificates.{certificate_of}
use Rattle.ttx_tool.specs.MonitorReports.{report_words}
use Rattle.ttx_tool.proofs.commands.monitor_reports.follow.Goals as goal

pub returns-then-how-clause-bytes : goal.returns-then-how-clause-bytes
returns-then-how-clause-bytes g c =
    let inputs = c.args.inputs.now in
    subst (λ json. IfSome (g.R.Read.remaining (inner_of c.args.feed.now)) (λ bytes. ReportsFeed (report_words json) (slots_of inputs.cycle)
    (pages_of inputs.service) (certificate_of inputs.certificate) c.args.how.asked bytes (g.W.Write.contents (inner_of c.args.writer.now))
    (g.W.Write.contents (inner_of c.report_feed_json.new.writer)) c.report_feed_json.result))
    (sym c.if-how.true) c.report_feed_json.ensures.bytes

pub returns-else-how-clause-bytes : goal.returns-else-how-clause-bytes
returns-else-how-clause-bytes g c =
    let inputs = c.args.inputs.now in
    subst (λ json. IfSome (g.R.Read.remaining (inner_of c.args.feed.now)) (λ bytes. ReportsFeed (report_words json) (slots_of inputs.cycle)
    (pages_of inputs.service) (certificate_of inputs.certificate) c.args.how.asked bytes (g.W.Write.contents (inner_of c.args.writer.now))
    (g.W.Write.contents (inner_of c.report_feed.new.writer)) c.report_feed.result))
    (sym c.if-how.false) c.report_feed.ensures.bytes
