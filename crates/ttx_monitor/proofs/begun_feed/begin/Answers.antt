use Rattle.ttx_cycle.specs.Counters.{inner_of}
use Rattle.ttx_monitor.proofs.HeardFeeds.{if_known}
use Rattle.ttx_monitor.proofs.begun_feed.begin.Goals as goal

pub returns-clause-bytes : goal.returns-clause-bytes
returns-clause-bytes g c =
    if_known _ _ (g.R.Read.remaining (inner_of c.args.feed.now)) (λ bytes o. record {
      found = o.found;
      begins = o.begins;
      stands = c.in-Ok.ensures;
      left = o.left;
      none = c.nothing_yet.ensures;
    })
    c.in_ok-start.ensures.bytes
