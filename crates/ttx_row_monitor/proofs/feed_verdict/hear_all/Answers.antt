use Rattle.std.proofs.Common.{refl, ◌∙◌, subst, arith}
use Rattle.ttx_cycle.specs.Counters.{inner_of}
use Rattle.ttx_row_monitor.specs.RowStepping.{IsRowStep}
use Rattle.ttx_row_monitor.proofs.HeardByRows.{none_heard, so_ended, so_long, so_more, so_broken, so_slipped}
use Rattle.ttx_row_monitor.proofs.feed_verdict.hear_all.Goals as goal

pub loop-slot-init : goal.loop-slot-init
loop-slot-init g c = record {
  heard = λ w bytes st left. none_heard w bytes c.args.monitor.now c.args.ahead.now (g.R.Read.remaining (inner_of c.args.feed.now)) st left;
  faults = refl;
}

pub returns-in-End-clause-heard : goal.returns-in-End-clause-heard
returns-in-End-clause-heard g c = λ w bytes st left.
    let h = c.loop-slot.invariant.heard w bytes st left in
    let new = g.R.Read.remaining (inner_of c.hear_next.new.feed) in
    let s = subst (IsRowStep w h.feed h.rest c.hear_next.new.monitor c.hear_next.new.ahead new) c.in-End.is
    (c.in_ok-next.ensures.step w h.feed h.rest h.stands h.left) in
    so_ended w bytes c.loop-slot.monitor c.loop-slot.ahead (g.R.Read.remaining (inner_of c.loop-slot.feed)) c.loop-slot.slot h
    c.hear_next.new.monitor c.in-End.rest s.0 s.1 s.2

pub returns-in-Broken-clause-heard : goal.returns-in-Broken-clause-heard
returns-in-Broken-clause-heard g c = λ w bytes st left.
    let h = c.loop-slot.invariant.heard w bytes st left in
    let new = g.R.Read.remaining (inner_of c.hear_next.new.feed) in
    let s = subst (IsRowStep w h.feed h.rest c.hear_next.new.monitor c.hear_next.new.ahead new) c.in-Broken.is
    (c.in_ok-next.ensures.step w h.feed h.rest h.stands h.left) in
    so_broken w bytes c.loop-slot.monitor c.loop-slot.ahead (g.R.Read.remaining (inner_of c.loop-slot.feed)) c.loop-slot.slot h
    s.0 s.1 s.2 c.in-Broken.breach s.3 s.4

pub returns-in-Slipped-clause-heard : goal.returns-in-Slipped-clause-heard
returns-in-Slipped-clause-heard g c = λ w bytes st left.
    let h = c.loop-slot.invariant.heard w bytes st left in
    let new = g.R.Read.remaining (inner_of c.hear_next.new.feed) in
    let s = subst (IsRowStep w h.feed h.rest c.hear_next.new.monitor c.hear_next.new.ahead new) c.in-Slipped.is
    (c.in_ok-next.ensures.step w h.feed h.rest h.stands h.left) in
    so_slipped w bytes c.loop-slot.monitor c.loop-slot.ahead (g.R.Read.remaining (inner_of c.loop-slot.feed)) c.loop-slot.slot h
    s.0 s.1 s.2 c.in-Slipped.by s.3

pub loop-slot-preserved : goal.loop-slot-preserved
loop-slot-preserved g c = record {
  heard = λ w bytes st left.
      let h = c.loop-slot.invariant.heard w bytes st left in
      let new = g.R.Read.remaining (inner_of c.hear_next.new.feed) in
      let s = subst (IsRowStep w h.feed h.rest c.hear_next.new.monitor c.hear_next.new.ahead new) c.in-Heard.is
      (c.in_ok-next.ensures.step w h.feed h.rest h.stands h.left) in
      so_more w bytes c.loop-slot.monitor c.loop-slot.ahead (g.R.Read.remaining (inner_of c.loop-slot.feed)) c.loop-slot.slot h
      c.hear_next.new.monitor c.hear_next.new.ahead new s;
  faults = c.in_ok-next.ensures.faults.0 ∙ c.loop-slot.invariant.faults;
}

pub returns-clause-heard : goal.returns-clause-heard
returns-clause-heard g c = λ w bytes st left.
    let h = c.loop-slot.invariant.heard w bytes st left in
    so_long w bytes c.loop-slot.monitor c.loop-slot.ahead (g.R.Read.remaining (inner_of c.loop-slot.feed)) c.loop-slot.slot h 0 (omega arith)
