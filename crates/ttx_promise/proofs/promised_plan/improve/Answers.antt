use Rattle.std.proofs.Common.{ℕ, List, map, Option, None, subst}
use Rattle.ttx_cycle.specs.Cycles.{slots_of}
use Rattle.ttx_cycle.specs.declared.cycles.Cycle.{Cycle}
use Rattle.ttx_source.specs.PromiseViews.{promise_view}
use Rattle.ttx_source.specs.Services.{pages_of}
use Rattle.ttx_promise.specs.Promises.{RaisesLatest, IsJudged}
use Rattle.ttx_promise.proofs.Improvements.{judged}
use Rattle.ttx_promise.proofs.promised_plan.improve.Goals as goal

pub returns : goal.returns
returns c =
    let promises = map promise_view c.args.promises.now in
    let fields : List ℕ = c.in_ok-fields.fields.items in
    let none : RaisesLatest c.args.viewers.receivers.late c.args.viewers.receivers.class fields promises c.args.service.now
    c.raise_latest.new.service None =
    subst (λ (ds : List ℕ). RaisesLatest c.args.viewers.receivers.late c.args.viewers.receivers.class ds promises c.args.service.now
    c.raise_latest.new.service None) c.deref.ensures.value
    (subst (λ (o : Option Cycle). RaisesLatest c.args.viewers.receivers.late c.args.viewers.receivers.class c.deref.result.now promises
    c.args.service.now c.raise_latest.new.service o) c.in-None.is c.in_ok-cycle.ensures) in
    let says : IsJudged (pages_of c.raise_latest.new.service) fields promises c.in_ok-judge-in-None.field-0 =
    subst (λ (ds : List ℕ). IsJudged (pages_of c.raise_latest.new.service) ds promises c.in_ok-judge-in-None.field-0)
    c.deref-in-None.ensures.value c.in_ok-judge-in-None.ensures in
    judged c.args.viewers promises c.args.service.now c.raise_latest.new.service (slots_of c.args.cycle.now) fields
    c.in_ok-judge-in-None.field-0 c.requires.plan c.in_ok-fields.ensures none says
