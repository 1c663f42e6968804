use Rattle.std.proofs.Common.{◌≡◌, ℕ, ◌≤◌, ◌<◌, length, get_or, true, None}
use Rattle.ttx_witness.specs.sent.Collected.{taint}
use Rattle.ttx_witness.proofs.sent.owners.taint_all.Given as goal

abbrev pub invariant-loop-m : goal.invariant-loop-m
invariant-loop-m l = record {
  size : length l.owners ≡ 8;
  done : (m : ℕ) → m < l.m → get_or l.owners m None ≡ taint true (get_or l.initial.owners m None);
  rest : (m : ℕ) → l.m ≤ m → get_or l.owners m None ≡ get_or l.initial.owners m None;
}
