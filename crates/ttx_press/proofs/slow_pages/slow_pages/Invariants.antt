use Rattle.std.proofs.Common.{◌≡◌, ◌++◌, drop, map}
use Rattle.ttx_promise.specs.Views.{late_view}
use Rattle.ttx_press.specs.Refusals.{slow_pages}
use Rattle.ttx_press.proofs.slow_pages.slow_pages.Given as goal

abbrev pub invariant-loop-one : goal.invariant-loop-one
invariant-loop-one l = map late_view l.slow.items ++ slow_pages l.deadline (drop l.one-index l.told) ≡ slow_pages l.deadline l.told
