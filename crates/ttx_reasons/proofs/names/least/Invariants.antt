use Rattle.std.proofs.Common.{◌<◌, length}
use Rattle.std.specs.Prelude.{nat_lt}
use Rattle.std.specs.List.{IsFirstBest}
use Rattle.ttx_reasons.proofs.names.least.Given as goal

abbrev pub invariant-loop-index : goal.invariant-loop-index
invariant-loop-index l = IsFirstBest nat_lt l.counts l.index l.best × (l.best < length l.counts)
