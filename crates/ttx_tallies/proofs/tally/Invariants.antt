use Rattle.std.proofs.Common.{◌≡◌, ℕ, take}
use Rattle.ttx_tallies.specs.Tallies.{times_among, times_in}
use Rattle.ttx_tallies.proofs.tally.Given as goal

abbrev pub invariant-loop-number : goal.invariant-loop-number
invariant-loop-number l = (n : ℕ) → times_in l.counts n ≡ times_among (take l.number-index l.numbers) n
