use Rattle.std.proofs.Common.{◌≡◌, ◌++◌, [], map, take}
use Rattle.ttx_plan.specs.Blocks.{rounds_to, round_of, with_fillers}
use Rattle.ttx_plan.specs.Seen.{seen, seen_sent}
use Rattle.ttx_plan.proofs.PassedBlocks.{KeepsLatest}
use Rattle.ttx_plan.proofs.rounds.sent_blocks.Given as goal

abbrev pub invariant-loop-round : goal.invariant-loop-round
invariant-loop-round l = record {
  sent : map seen_sent l.sent.items ≡ with_fillers l.late [] (rounds_to (map seen l.blocks) l.round);
  late : l.fillers.late ≡ l.late;
  latest : KeepsLatest l.fillers.latest (rounds_to (map seen l.blocks) l.round);
}

abbrev pub invariant-loop-block : goal.invariant-loop-block
invariant-loop-block l = record {
  sent : map seen_sent l.sent.items ≡ with_fillers l.late []
      (rounds_to (map seen l.blocks) l.round ++ round_of (map seen (take l.block-index l.blocks)) l.round);
  late : l.fillers.late ≡ l.late;
  latest : KeepsLatest l.fillers.latest (rounds_to (map seen l.blocks) l.round ++ round_of (map seen (take l.block-index l.blocks)) l.round);
}
