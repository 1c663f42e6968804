use Rattle.std.proofs.Common.{ℕ, map, subst}
use Rattle.ttx_source.specs.PromiseViews.{promise_view}
use Rattle.ttx_promise.specs.Promises.{TriesToRaise}
use Rattle.ttx_promise.proofs.Steps.{raises_latest}
use Rattle.ttx_promise.proofs.promised_plan.raise_latest.Goals as goal

pub returns-in-Ok : goal.returns-in-Ok
returns-in-Ok c =
    raises_latest c.args.receivers.late c.args.receivers.class c.args.fields.now (map promise_view c.args.promises.now) c.args.service.now
    c.raise.new.service c.in-Some.number c.in-Ok.raised c.pages-pages.ensures.ranges c.in-Some.ensures
    (subst (λ (i : ℕ). TriesToRaise c.args.receivers.late c.args.receivers.class i c.args.service.now c.raise.new.service c.in-Ok.raised)
    c.page_at.ensures c.in-Ok.ensures)
