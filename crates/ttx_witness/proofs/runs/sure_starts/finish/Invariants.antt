use Rattle.std.proofs.Common.{◌≡◌, ℕ, ◌+◌, ◌*◌, ◌≤◌, List, length}
use Rattle.std.specs.List.{AllByRecursion}
use Rattle.ttx_witness.specs.runs.Transmissions.{Transmission, Run}
use Rattle.ttx_witness.specs.runs.SureStarts.{IsFound}
use Rattle.ttx_witness.specs.runs.Tracks.{held_in_ring, IsSearch, IsWithin, IsRound}
use Rattle.ttx_witness.proofs.runs.sure_starts.finish.Given as goal

abbrev pub invariant-loop-i : goal.invariant-loop-i
invariant-loop-i l = record {
  repeat : l.ring.window.capacity ≡ l.initial.ring.window.capacity;
  some : 1 ≤ length l.ring.firsts.items;
  firsts : length l.ring.firsts.items ≤ 7;
  small : AllByRecursion (IsWithin ((l.i + 1) * 65536)) l.ring.firsts.items;
  round : (k : ℕ) (ts : List Transmission) → IsSearch k ts l.initial.ring l.initial.found → (rs : List Run)
      × IsRound k l.period l.i ts rs (held_in_ring l.ring) × IsFound rs l.found.starts.items l.found.spread;
}
