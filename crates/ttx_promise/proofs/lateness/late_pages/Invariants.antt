use Rattle.std.proofs.Common.{◌≡◌, ◌++◌, drop, map}
use Rattle.ttx_promise.specs.Lateness.{late_of}
use Rattle.ttx_promise.specs.Views.{late_view}
use Rattle.ttx_source.specs.PromiseViews.{promise_view}
use Rattle.ttx_source.specs.Services.{pages_of}
use Rattle.ttx_promise.proofs.lateness.late_pages.Given as goal

abbrev pub invariant-loop-promise : goal.invariant-loop-promise
invariant-loop-promise l =
    map late_view l.late.items ++ late_of (pages_of l.service) l.deadlines (map promise_view (drop l.promise-index l.promises))
    ≡ late_of (pages_of l.service) l.deadlines (map promise_view l.promises)
