use Rattle.std.proofs.Common.{◌≡◌, ◌+◌, ◌<◌, ℕ, length, get_or, None}
use Rattle.ttx_cycle.specs.Cycles.{slots_of}
use Rattle.ttx_proof.specs.Seams.{TellsLatest}
use Rattle.ttx_proof.proofs.seams.latest_headers.Given as goal

abbrev pub invariant-loop-m : goal.invariant-loop-m
invariant-loop-m l = record {
  size : length l.latest ≡ 8;
  done : (k : ℕ) → k < l.m → TellsLatest (slots_of l.old) (k + 1) (get_or l.latest k None);
}
