use Rattle.std.proofs.Common.{length, ap, ◌∙◌, refl, subst}
use Rattle.ttx_monitor.specs.Feeds.{HearsAll}
use Rattle.ttx_monitor.specs.Watching.{watched}
use Rattle.ttx_monitor.proofs.feed_verdict.verdict_of.Goals as goal

pub returns-in-End-clause-is : goal.returns-in-End-clause-is
returns-in-End-clause-is c = λ cycle pages cert bytes is_cycle are is_cert heard.
    let w = watched cycle pages cert.repeat c.args.start in
    let h = subst (HearsAll w bytes c.args.monitor.now) c.in-End.is heard in
    record {
      feed = h.feed;
      tail = h.tail;
      same = h.same;
      ended = h.ended;
      within = h.within;
      slots_are = c.count.ensures w h.feed h.stands;
      wrong_are = c.wrong.ensures w h.feed h.stands;
      streak_is = c.longest.ensures w h.feed h.stands h.within;
      seen = λ accepts reached. c.within_is_seen.ensures w h.feed cert is_cycle are is_cert refl accepts h.within reached;
    }

pub returns-in-Broken-clause-is : goal.returns-in-Broken-clause-is
returns-in-Broken-clause-is c = λ cycle pages cert bytes is_cycle are is_cert heard.
    subst (HearsAll (watched cycle pages cert.repeat c.args.start) bytes c.args.monitor.now) c.in-Broken.is heard

pub returns-in-Slipped-clause-is : goal.returns-in-Slipped-clause-is
returns-in-Slipped-clause-is c = λ cycle pages cert bytes is_cycle are is_cert heard.
    let h = subst (HearsAll (watched cycle pages cert.repeat c.args.start) bytes c.args.monitor.now) c.in-Slipped.is heard in
    let o = h.1 in
    (h.0, ap length (c.slots.ensures.slots ∙ c.cycle.ensures o.0 o.1 o.2 ∙ o.3))
