use Rattle.std.proofs.Common.{ℕ, ◌<◌, get_or}
use Rattle.ttx_page.specs.Streams.{repeated}
use Rattle.ttx_cycle.specs.Cycles.{slots_of}
use Rattle.ttx_counter.specs.Counters.{Hit, IsHit}
use Rattle.ttx_counter.proofs.checks.are_hits.Given as goal

abbrev pub invariant-loop-hit : goal.invariant-loop-hit
invariant-loop-hit l = (k : ℕ) (d : Hit) → k < l.hit-index → IsHit (repeated (slots_of l.cycle)) l.start l.count (get_or l.hits k d)
