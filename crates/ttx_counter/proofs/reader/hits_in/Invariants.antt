use Rattle.std.proofs.Common.{◌≡◌, ◌-◌, ◌*◌, ◌++◌, drop}
use Rattle.ttx_counter.specs.CounterReading.{hits_in}
use Rattle.ttx_counter.proofs.reader.hits_in.Given as goal

abbrev pub invariant-loop-i : goal.invariant-loop-i
invariant-loop-i l = hits_in l.count l.numbers ≡ l.hits.items ++ hits_in (l.count - l.i) (drop (3 * l.i) l.numbers)
