use Rattle.std.proofs.Common.{map, subst}
use Rattle.ttx_source.specs.PromiseViews.{promise_view}
use Rattle.ttx_promise.specs.Searching.{GoesOn}
use Rattle.ttx_promise.proofs.RaisedPages.{same_service, further_raised}
use Rattle.ttx_promise.proofs.layout_search.search.Goals as goal

pub loop-outlines-init : goal.loop-outlines-init
loop-outlines-init c = record { raised = same_service (map promise_view c.args.promises.now) c.args.service.now; fits = c.requires.fits }

pub loop-outlines-preserved : goal.loop-outlines-preserved
loop-outlines-preserved c =
    let promises = map promise_view c.args.promises.now in
    let step = subst (GoesOn c.args.viewers promises c.loop-outlines.service c.go_on.new.service) c.if-not-branch.false c.in_ok-go_on.ensures in
    record {
      raised = further_raised promises c.args.service.now c.loop-outlines.service c.go_on.new.service c.loop-outlines.invariant.raised step.0;
      fits = step.2;
    }
