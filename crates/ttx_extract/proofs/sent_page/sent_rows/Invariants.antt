use Rattle.std.proofs.Common.{◌≡◌, ℕ, ◌≤◌, List, length, take, Some, slice_get}
use Rattle.ttx_cycle.specs.Cycles.{slots_of}
use Rattle.ttx_page.specs.Pages.{Page}
use Rattle.ttx_witness.specs.sent.AllSent.{AreAllSent}
use Rattle.ttx_extract.specs.Drafts.{said_rows}
use Rattle.ttx_extract.proofs.sent_page.sent_rows.Given as goal

abbrev pub invariant-loop-i : goal.invariant-loop-i
invariant-loop-i l = record {
  size : length l.rows ≡ 24;
  within : l.i ≤ 24;
  done : (pages : List Page) (lines : ℕ) (p : Page) → AreAllSent (slots_of l.cycle) pages lines l.collected → slice_get pages l.index ≡ Some p →
      take l.i l.rows ≡ take l.i (said_rows (slots_of l.cycle) lines p.id);
}
