use Rattle.std.proofs.Common.{◌≡◌, ℕ, ◌<◌, length, slice_index}
use Rattle.ttx_monitor.proofs.streaks.clear_all.Given as goal

abbrev pub invariant-loop-q : goal.invariant-loop-q
invariant-loop-q l = record {
  size : length l.cells.items ≡ length l.initial.cells.items;
  zero : (q : ℕ) → q < l.q → slice_index l.cells.items q ≡ 0;
}
