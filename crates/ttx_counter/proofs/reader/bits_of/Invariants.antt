use Rattle.std.proofs.Common.{◌≡◌, take, map}
use Rattle.ttx_counter.specs.CounterReading.{is_one}
use Rattle.ttx_counter.proofs.reader.bits_of.Given as goal

abbrev pub invariant-loop-number : goal.invariant-loop-number
invariant-loop-number l = l.bits.items ≡ map is_one (take l.number-index l.numbers)
