use Rattle.std.proofs.Common.{◌≡◌, ◌≤◌, ◌+◌, ◌*◌, ◌++◌, [], take}
use Rattle.ttx_plan.specs.Blocks.{placed, rounds_to, round_of, with_fillers}
use Rattle.ttx_plan.specs.Carries.{blocks_of}
use Rattle.ttx_plan.specs.Seen.{fillers_in}
use Rattle.ttx_plan.proofs.PassedBlocks.{KeepsLatest}
use Rattle.ttx_plan.proofs.bounds.count_fillers.Given as goal

abbrev pub invariant-loop-round : goal.invariant-loop-round
invariant-loop-round l = record {
  count : l.count ≡ fillers_in (with_fillers l.fn.receivers.late []
      (rounds_to (placed l.places (blocks_of l.fn.receivers.class l.service.pages)) l.round));
  late : l.fillers.late ≡ l.fn.receivers.late;
  latest : KeepsLatest l.fillers.latest (rounds_to (placed l.places (blocks_of l.fn.receivers.class l.service.pages)) l.round);
  few : l.count ≤ 2000 * l.round;
}

abbrev pub invariant-loop-index : goal.invariant-loop-index
invariant-loop-index l = record {
  count : l.count ≡ fillers_in (with_fillers l.fn.receivers.late []
      (rounds_to (placed l.places (blocks_of l.fn.receivers.class l.service.pages)) l.round
      ++ round_of (placed l.places (blocks_of l.fn.receivers.class (take l.index l.service.pages))) l.round));
  late : l.fillers.late ≡ l.fn.receivers.late;
  latest : KeepsLatest l.fillers.latest
      (rounds_to (placed l.places (blocks_of l.fn.receivers.class l.service.pages)) l.round
      ++ round_of (placed l.places (blocks_of l.fn.receivers.class (take l.index l.service.pages))) l.round);
  few : l.count ≤ 2000 * l.round + l.index;
}
