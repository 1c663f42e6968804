use Rattle.std.proofs.Common.{◌≡◌, ◌<◌, ℕ, pos, false, length, map, slice_index_or}
use Rattle.ttx_cycle.specs.Cycles.{slots_of}
use Rattle.ttx_page.specs.Views.{page_of}
use Rattle.ttx_row_monitor.specs.Flags.{IsFlag}
use Rattle.ttx_row_monitor.proofs.flags.flags_of.Given as goal

abbrev pub invariant-loop-j : goal.invariant-loop-j
invariant-loop-j l = record {
  size : length l.flags.items ≡ l.j;
  each : (j : ℕ) → j < l.j → IsFlag (slots_of l.cycle) (map page_of l.pages) (pos j) (slice_index_or l.flags.items j false);
}
