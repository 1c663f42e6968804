use Rattle.ttx_monitor.proofs.ReportedFeeds.{said_some}
use Rattle.ttx_monitor.proofs.report.verdict_at.Goals as goal

pub returns-in-Some : goal.returns-in-Some
returns-in-Some c = λ cycle pages cert bytes g old new is_cycle are is_cert begins h.
    said_some cycle pages cert bytes g old new c.args.start begins c.args.following.now c.args.followed c.in-Some.heard c.verdict_of.result
    c.in-Some.ensures h c.verdict_of.ensures.start (c.verdict_of.ensures.is cycle pages cert bytes is_cycle are is_cert)
