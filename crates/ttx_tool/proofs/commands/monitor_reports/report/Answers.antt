use Rattle.std.proofs.lemmas.Option.{IfSome_then}
use Rattle.ttx_cycle.specs.Counters.{inner_of}
use Rattle.ttx_tool.proofs.commands.monitor_reports.report.Goals as goal

pub returns-in-Ok-clause-bytes : goal.returns-in-Ok-clause-bytes
returns-in-Ok-clause-bytes g c =
    IfSome_then (g.R.Read.remaining (inner_of c.args.feed.now)) c.in-Ok.ensures.bytes
    (λ bytes reported. (c.in-Ok.verdict, c.report_status.ensures, reported))
