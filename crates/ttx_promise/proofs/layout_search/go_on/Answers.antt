use Rattle.std.proofs.Common.{ℕ, map, subst}
use Rattle.ttx_source.specs.PromiseViews.{promise_view}
use Rattle.ttx_promise.specs.Searching.{MayBeRaised}
use Rattle.ttx_promise.proofs.Steps.{goes_on}
use Rattle.ttx_promise.proofs.layout_search.go_on.Goals as goal

pub returns : goal.returns
returns c =
    let promises = map promise_view c.args.promises.now in
    goes_on c.args.viewers c.deref.result.now promises c.args.service.now c.try_to_raise.new.service c.in-Some.number c.try_to_raise.result
    c.pages-pages.ensures.ranges c.in-Some.ensures
    (subst (λ (i : ℕ). MayBeRaised c.args.viewers.receivers.late c.args.viewers.receivers.class i c.args.service.now c.try_to_raise.new.service
    c.try_to_raise.result) c.page_at-page.ensures c.try_to_raise.ensures)
