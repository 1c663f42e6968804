use Rattle.ttx_cycle.specs.Counters.{inner_of}
use Rattle.ttx_tool.proofs.MonitoredFeeds.{if_read, told_of}
use Rattle.ttx_tool.proofs.commands.monitor.monitor_files.Goals as goal

pub returns-clause-bytes : goal.returns-clause-bytes
returns-clause-bytes g c =
    if_read (g.A.Read.remaining (inner_of c.args.cycle.now)) (g.B.Read.remaining (inner_of c.args.service.now))
    (g.C.Read.remaining (inner_of c.args.certificate.now)) (g.R.Read.remaining (inner_of c.args.feed.now))
    c.in-Ok.ensures.bytes c.tell.ensures.bytes
    (told_of c.in-Ok.inputs c.args.how.json c.args.how.by_rows c.args.how.start c.tell.result c.tell.ensures.own)
