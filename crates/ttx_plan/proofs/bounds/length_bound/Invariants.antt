use Rattle.std.proofs.Common.{◌≡◌, ◌≤◌, ◌+◌, ◌*◌, length, take}
use Rattle.std.specs.Prelude.{sum_by}
use Rattle.ttx_plan.specs.Carries.{blocks_of}
use Rattle.ttx_plan.proofs.bounds.length_bound.Given as goal

abbrev pub invariant-loop-index : goal.invariant-loop-index
invariant-loop-index l = record {
  blocks : l.blocks ≡ sum_by (λ b. b.often) (blocks_of l.receivers.class (take l.index l.service.pages));
  packets : l.packets ≡ sum_by (λ b. b.often * (length b.rest + 1)) (blocks_of l.receivers.class (take l.index l.service.pages));
  few : l.blocks ≤ 8 * l.index;
  small : l.packets ≤ 208 * l.index;
}
