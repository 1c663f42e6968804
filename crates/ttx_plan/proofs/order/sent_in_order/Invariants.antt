use Rattle.std.proofs.Common.{◌≡◌, [], length, map, take}
use Rattle.ttx_plan.specs.Blocks.{with_fillers}
use Rattle.ttx_plan.specs.Order.{picked}
use Rattle.ttx_plan.specs.Seen.{seen, seen_sent}
use Rattle.ttx_plan.proofs.PassedBlocks.{KeepsLatest}
use Rattle.ttx_plan.proofs.order.sent_in_order.Given as goal

abbrev pub invariant-loop-index : goal.invariant-loop-index
invariant-loop-index l = record {
  sent : map seen_sent l.sent.items ≡ with_fillers l.late [] (picked (map seen l.blocks) (take l.index-index l.order));
  count : length l.sent.items ≡ l.index-index;
  late : l.fillers.late ≡ l.late;
  latest : KeepsLatest l.fillers.latest (picked (map seen l.blocks) (take l.index-index l.order));
}
