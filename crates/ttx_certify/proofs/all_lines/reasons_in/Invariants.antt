use Rattle.std.proofs.Common.{◌≡◌, ◌+◌, ◌≤◌, drop}
use Rattle.ttx_certify.specs.AllLines.{reasons_in}
use Rattle.ttx_certify.proofs.all_lines.reasons_in.Given as goal

abbrev pub invariant-loop-told : goal.invariant-loop-told
invariant-loop-told l = (l.count + reasons_in (drop l.told-index l.pages) ≡ reasons_in l.pages) × (l.count ≤ l.told-index)
