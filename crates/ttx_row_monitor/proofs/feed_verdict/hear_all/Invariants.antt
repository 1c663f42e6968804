use Rattle.std.proofs.Common.{◌≡◌, ℕ, List, []}
use Rattle.ttx_monitor.specs.Watching.{Watched}
use Rattle.ttx_monitor.specs.Waiting.{IsLeft}
use Rattle.ttx_row_monitor.specs.RowStanding.{RowStands}
use Rattle.ttx_row_monitor.proofs.HeardByRows.{HeardRowsSo}
use Rattle.ttx_row_monitor.proofs.feed_verdict.hear_all.Given as goal

abbrev pub invariant-loop-slot : goal.invariant-loop-slot
invariant-loop-slot g l = record {
  heard : (w : Watched) (bytes : List ℕ) → RowStands l.initial.monitor w [] → IsLeft l.initial.ahead (g.R.Read.remaining l.initial.feed.inner) bytes →
      HeardRowsSo w bytes l.monitor l.ahead (g.R.Read.remaining l.feed.inner) l.slot;
  faults : l.feed.faults ≡ l.initial.feed.faults;
}
