use Rattle.std.proofs.Common.{◌≡◌, ℕ, ◌<◌, length, get_or}
use Rattle.std.specs.Prelude.{slice_index}
use Rattle.ttx_counter.specs.CounterReading.{at_most}
use Rattle.ttx_counter.proofs.reader.row_in.Given as goal

abbrev pub invariant-loop-c : goal.invariant-loop-c
invariant-loop-c l = record {
  size : length l.row ≡ 40;
  done : (k : ℕ) → k < l.c → get_or l.row k 0 ≡ at_most 127 (slice_index l.numbers k);
}
