use Rattle.std.proofs.Common.{◌≡◌, ℕ, ◌*◌, ◌<◌, [], length, drop, get_or}
use Rattle.ttx_counter.specs.CounterReading.{characters_in}
use Rattle.ttx_counter.proofs.reader.read_rows.Given as goal

abbrev pub invariant-loop-r : goal.invariant-loop-r
invariant-loop-r l = record {
  size : length l.rows ≡ 25;
  done : (k : ℕ) → k < l.r → get_or l.rows k [] ≡ characters_in 40 (drop (40 * k) l.numbers);
}
