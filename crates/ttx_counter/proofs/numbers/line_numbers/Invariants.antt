use Rattle.std.proofs.Common.{◌≡◌, ◌++◌, drop}
use Rattle.ttx_counter.specs.CounterReading.{numbers_after, line_numbers}
use Rattle.ttx_counter.proofs.numbers.line_numbers.Given as goal

abbrev pub invariant-loop-byte : goal.invariant-loop-byte
invariant-loop-byte l = line_numbers l.bytes ≡ l.numbers.items ++ numbers_after l.begun (drop l.byte-index l.bytes)
