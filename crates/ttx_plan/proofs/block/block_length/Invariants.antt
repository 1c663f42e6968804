use Rattle.std.proofs.Common.{◌≡◌, ◌≤◌, ◌+◌, length}
use Rattle.ttx_page.specs.Views.{page_of}
use Rattle.ttx_plan.specs.Contents.{sent_rows}
use Rattle.ttx_plan.proofs.block.block_length.Given as goal

abbrev pub invariant-loop-above : goal.invariant-loop-above
invariant-loop-above l = record {
  count : l.count ≡ length (sent_rows l.class (page_of l.page) l.above) + 1;
  few : l.count ≤ l.above + 1;
}
