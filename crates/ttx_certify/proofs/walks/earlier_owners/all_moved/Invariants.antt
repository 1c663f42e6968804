use Rattle.std.proofs.Common.{◌≡◌, ℕ, ◌<◌, length, get_or, None}
use Rattle.ttx_witness.specs.sent.Collected.{IsForeign}
use Rattle.ttx_certify.specs.walks.EarlierOwners.{IsMoved}
use Rattle.ttx_certify.proofs.walks.earlier_owners.all_moved.Given as goal

abbrev pub invariant-loop-m : goal.invariant-loop-m
invariant-loop-m l = record {
  size : length l.earlier ≡ 8;
  moved : (m : ℕ) → m < l.m → IsMoved l.by (get_or l.owners m None) (get_or l.earlier m None);
  foreign : (m i : ℕ) → m < l.m → IsForeign i (get_or l.owners m None) → IsForeign i (get_or l.earlier m None);
}
