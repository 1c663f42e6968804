use Rattle.std.proofs.Common.{◌≡◌, ◌++◌, drop}
use Rattle.ttx_report.specs.Waits.{waits_told}
use Rattle.ttx_report.proofs.waits.waits_told.Given as goal

abbrev pub invariant-loop-one : goal.invariant-loop-one
invariant-loop-one l = l.told.items ++ waits_told (drop l.one-index l.all) ≡ waits_told l.all
