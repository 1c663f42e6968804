use Rattle.std.proofs.Common.{◌≡◌, take, map}
use Rattle.ttx_counter.specs.Keys.{hit_key}
use Rattle.ttx_counter.proofs.keys.keys_of.Given as goal

abbrev pub invariant-loop-hit : goal.invariant-loop-hit
invariant-loop-hit l = l.keys.items ≡ map hit_key (take l.hit-index l.hits)
