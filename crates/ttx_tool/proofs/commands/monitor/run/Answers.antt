use Rattle.ttx_cycle.specs.Counters.{inner_of}
use Rattle.ttx_tool.proofs.MonitoredFeeds.{if_all, means}
use Rattle.ttx_tool.proofs.commands.monitor.run.Goals as goal

pub returns-clause-means : goal.returns-clause-means
returns-clause-means g c =
    if_all (g.A.Read.remaining (inner_of c.args.cycle.now)) (g.B.Read.remaining (inner_of c.args.service.now))
    (g.C.Read.remaining (inner_of c.args.certificate.now)) (g.R.Read.remaining (inner_of c.args.feed.now))
    c.judge.ensures.bytes (means c.args.how.json c.args.how.by_rows c.args.how.start (g.W.Write.contents (inner_of c.args.writer.now))
    (g.W.Write.contents (inner_of c.judge.new.writer)) c.judge.result)
