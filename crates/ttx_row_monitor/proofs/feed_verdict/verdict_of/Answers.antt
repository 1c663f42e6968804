use Rattle.std.proofs.Common.{length, ap, refl, subst}
use Rattle.ttx_cycle.specs.Cycles.{slots_of, slots_of-IsCycle}
use Rattle.ttx_monitor.specs.Watching.{watched}
use Rattle.ttx_row_monitor.specs.RowVerdicts.{HearsRows}
use Rattle.ttx_row_monitor.proofs.feed_verdict.verdict_of.Goals as goal

pub returns-in-End-clause-is : goal.returns-in-End-clause-is
returns-in-End-clause-is c = λ pages cert bytes are is_cert heard.
    let w = watched (slots_of c.args.cycle.now) pages cert.repeat c.args.start in
    let h = subst (HearsRows w bytes c.args.monitor.now) c.in-End.is heard in
    let lost = c.lost.ensures w h.feed h.stands in
    record {
      feed = h.feed;
      tail = h.tail;
      same = h.same;
      ended = h.ended;
      within = h.within;
      received = c.within_is_received_by_rows.ensures w h.feed h.within;
      slots_are = c.count.ensures w h.feed h.stands;
      count = lost.0;
      counted = lost.1;
      lost_are = lost.2;
      seen = λ accepts reached. c.within_is_seen_by_rows.ensures w h.feed cert (slots_of-IsCycle c.args.cycle.now) are is_cert refl accepts h.within reached;
      shown = λ accepts. c.within_is_shown_by_rows.ensures w h.feed cert (slots_of-IsCycle c.args.cycle.now) are is_cert refl accepts h.within;
    }

pub returns-in-Broken-clause-is : goal.returns-in-Broken-clause-is
returns-in-Broken-clause-is c = λ pages cert bytes are is_cert heard.
    subst (HearsRows (watched (slots_of c.args.cycle.now) pages cert.repeat c.args.start) bytes c.args.monitor.now) c.in-Broken.is heard

pub returns-in-Slipped-clause-is : goal.returns-in-Slipped-clause-is
returns-in-Slipped-clause-is c = λ pages cert bytes are is_cert heard.
    let h = subst (HearsRows (watched (slots_of c.args.cycle.now) pages cert.repeat c.args.start) bytes c.args.monitor.now) c.in-Slipped.is heard in
    (h, ap length c.slots.ensures.slots)
