use Rattle.std.proofs.Common.{◌≡◌, ◌≤◌}
use Rattle.ttx_page.specs.Views.{page_of}
use Rattle.ttx_check.specs.Entries.{shown_rows}
use Rattle.ttx_check.proofs.entries.shown_rows.Given as goal

abbrev pub invariant-loop-above : goal.invariant-loop-above
invariant-loop-above l = record {
  count : l.count ≡ shown_rows (page_of l.page) l.above;
  few : l.count ≤ l.above;
}
