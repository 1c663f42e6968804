use Rattle.std.proofs.Common.{◌≡◌, drop, None}
use Rattle.ttx_certificate.specs.Entries.{rises_above}
use Rattle.ttx_certificate.proofs.entries.rises.Given as goal

abbrev pub invariant-loop-number : goal.invariant-loop-number
invariant-loop-number l = rises_above None l.numbers ≡ rises_above l.low (drop l.number-index l.numbers)
