use Rattle.std.proofs.Common.{nat_lt, ◌<◌}
use Rattle.std.specs.List.{IsFirstBest}
use Rattle.ttx_author.proofs.remedies.least.Given as goal

abbrev pub invariant-loop-index : goal.invariant-loop-index
invariant-loop-index l = IsFirstBest nat_lt l.counts l.index l.best × (l.best < 34)
