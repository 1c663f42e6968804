use Rattle.std.proofs.Common.{map}
use Rattle.ttx_source.specs.PromiseViews.{promise_view}
use Rattle.ttx_promise.proofs.Improvements.{ends_from}
use Rattle.ttx_promise.proofs.promised_plan.keep_promises.Goals as goal

pub returns-in-Ok : goal.returns-in-Ok
returns-in-Ok c =
    ends_from c.args.viewers (map promise_view c.args.promises.now) c.args.service.now c.begin.new.service c.improve_all.new.service
    c.improve_all.result c.in-Ok.ensures.raised c.improve_all.ensures
