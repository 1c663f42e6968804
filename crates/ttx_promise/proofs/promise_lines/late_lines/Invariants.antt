use Rattle.std.proofs.Common.{◌≡◌, ◌++◌, drop, map, string_bytes}
use Rattle.ttx_promise.specs.PromiseLines.{late_lines}
use Rattle.ttx_promise.specs.Views.{late_view}
use Rattle.ttx_promise.proofs.promise_lines.late_lines.Given as goal

abbrev pub invariant-loop-late : goal.invariant-loop-late
invariant-loop-late l = string_bytes l.text ++ late_lines (map late_view (drop l.late-index l.pages)) ≡ late_lines (map late_view l.pages)
