use Rattle.std.proofs.Common.{◌≡◌, ◌++◌, suc}
use Rattle.ttx_page.specs.Pages.{is_hidden, page_row}
use Rattle.ttx_page.specs.Views.{page_of}
use Rattle.ttx_check.specs.PageWarnings.{row_warnings_to}
use Rattle.ttx_check.proofs.rows.push_rows.Given as goal

abbrev pub invariant-loop-above : goal.invariant-loop-above
invariant-loop-above l = record {
  found : l.found.items ≡ l.initial.found.items ++ row_warnings_to (page_of l.page) l.above;
  hidden : l.hidden ≡ is_hidden (page_row (page_of l.page)) (suc l.above);
}
