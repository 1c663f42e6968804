use Rattle.std.proofs.Common.{refl, ◌∙◌, subst, arith}
use Rattle.ttx_cycle.specs.Counters.{inner_of}
use Rattle.ttx_monitor.specs.Stepping.{IsStep}
use Rattle.ttx_monitor.proofs.HeardMore.{none_heard, so_ended, so_long, so_more, so_ending}
use Rattle.ttx_monitor.proofs.feed_verdict.hear_all.Goals as goal

pub loop-slot-init : goal.loop-slot-init
loop-slot-init g c = record {
  heard = λ w bytes st left. none_heard c.rows_are_numbered.ensures c.each_slot_turns.ensures c.streams_move.ensures c.streaks_decide.ensures
      w bytes c.args.monitor.now c.args.ahead.now (g.R.Read.remaining (inner_of c.args.feed.now)) st left;
  faults = refl;
}

pub returns-in-End-clause-heard : goal.returns-in-End-clause-heard
returns-in-End-clause-heard g c = λ w bytes st left.
    let h = c.loop-slot.invariant.heard w bytes st left in
    let new = g.R.Read.remaining (inner_of c.hear_next.new.feed) in
    let s = subst (IsStep w h.feed h.rest c.hear_next.new.monitor c.hear_next.new.ahead new) c.in-End.is
    (c.in_ok-next.ensures.step w h.feed h.rest h.stands h.left) in
    so_ended w bytes c.loop-slot.monitor c.loop-slot.ahead (g.R.Read.remaining (inner_of c.loop-slot.feed)) c.loop-slot.slot h
    c.hear_next.new.monitor c.in-End.rest s.0 s.1 s.2

pub returns-in-Some-clause-heard : goal.returns-in-Some-clause-heard
returns-in-Some-clause-heard g c = λ w bytes st left.
    let h = c.loop-slot.invariant.heard w bytes st left in
    let new = g.R.Read.remaining (inner_of c.hear_next.new.feed) in
    let s = subst (IsStep w h.feed h.rest c.hear_next.new.monitor c.hear_next.new.ahead new) c.in-Heard.is
    (c.in_ok-next.ensures.step w h.feed h.rest h.stands h.left) in
    so_ending w bytes c.loop-slot.monitor c.loop-slot.ahead (g.R.Read.remaining (inner_of c.loop-slot.feed)) c.loop-slot.slot h
    c.hear_next.new.monitor c.hear_next.new.ahead new c.in-Heard.event s c.in-Some.heard c.in-Some.ensures

pub loop-slot-preserved : goal.loop-slot-preserved
loop-slot-preserved g c = record {
  heard = λ w bytes st left.
      let h = c.loop-slot.invariant.heard w bytes st left in
      let new = g.R.Read.remaining (inner_of c.hear_next.new.feed) in
      let s = subst (IsStep w h.feed h.rest c.hear_next.new.monitor c.hear_next.new.ahead new) c.in-Heard.is
      (c.in_ok-next.ensures.step w h.feed h.rest h.stands h.left) in
      so_more w bytes c.loop-slot.monitor c.loop-slot.ahead (g.R.Read.remaining (inner_of c.loop-slot.feed)) c.loop-slot.slot h
      c.hear_next.new.monitor c.hear_next.new.ahead new c.in-Heard.event s c.in_default.ensures.0 c.in_default.ensures.1;
  faults = c.in_ok-next.ensures.faults.0 ∙ c.loop-slot.invariant.faults;
}

pub returns-clause-heard : goal.returns-clause-heard
returns-clause-heard g c = λ w bytes st left.
    let h = c.loop-slot.invariant.heard w bytes st left in
    so_long w bytes c.loop-slot.monitor c.loop-slot.ahead (g.R.Read.remaining (inner_of c.loop-slot.feed)) c.loop-slot.slot h 0 (omega arith)
