use Rattle.std.proofs.Common.{◌≡◌, ◌≤◌, not, if◌then◌else◌}
use Rattle.ttx_page.specs.Pages.{is_hidden, page_row}
use Rattle.ttx_page.specs.Views.{page_of}
use Rattle.ttx_page.proofs.shown.is_hidden.Given as goal

abbrev pub decreases-loop-at : goal.decreases-loop-at
decreases-loop-at l = l.at

-- the row is hidden if the row reached is, negated once for each row in double height that was passed
abbrev pub invariant-loop-at : goal.invariant-loop-at
invariant-loop-at l = record {
  from : 1 ≤ l.at;
  to : l.at ≤ l.number;
  turned : is_hidden (page_row (page_of l.page)) l.number
      ≡ (if l.hidden then not (is_hidden (page_row (page_of l.page)) l.at) else is_hidden (page_row (page_of l.page)) l.at);
}
