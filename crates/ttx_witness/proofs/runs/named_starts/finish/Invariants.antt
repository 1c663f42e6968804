use Rattle.std.proofs.Common.{◌≡◌, ℕ, ◌+◌, ◌*◌, ◌≤◌, List, length}
use Rattle.std.specs.List.{AllByRecursion}
use Rattle.ttx_witness.specs.runs.Transmissions.{Transmission, Run}
use Rattle.ttx_witness.specs.runs.Confirming.{after_runs, not_begun}
use Rattle.ttx_witness.specs.runs.Tracks.{held_in, IsTrack, IsWithin, IsRound}
use Rattle.ttx_witness.proofs.runs.named_starts.finish.Given as goal

abbrev pub invariant-loop-i : goal.invariant-loop-i
invariant-loop-i l = record {
  repeat : l.track.recent.repeat ≡ l.initial.track.recent.repeat;
  some : 1 ≤ length l.track.recent.firsts.items;
  firsts : length l.track.recent.firsts.items ≤ 7;
  small : AllByRecursion (IsWithin ((l.i + 1) * 65536)) l.track.recent.firsts.items;
  round : (k : ℕ) (ts : List Transmission) → IsTrack k l.limit l.starts ts l.initial.track → (rs : List Run)
      × IsRound k l.period l.i ts rs (held_in l.track.recent) × (l.track.progress ≡ after_runs l.limit l.starts not_begun rs);
}
