use Rattle.std.proofs.Common.{◌≡◌, ◌⊎◌, ℕ, ◌<◌, ◌≤◌}
use Rattle.ttx_cycle.specs.Cycles.{slots_of}
use Rattle.ttx_monitor.specs.Starting.{Misfits, judged_slots}
use Rattle.ttx_monitor.proofs.feed_start.find_start.Given as goal

abbrev pub invariant-loop-start : goal.invariant-loop-start
invariant-loop-start l =
    let cycle = slots_of l.cycle in
    let n = judged_slots cycle l.head in
    record {
      best : (l.fewest ≡ l.initial.fewest) ⊎ ((l.best < l.start) × Misfits cycle l.head l.best n l.fewest);
      fewest : (j c : ℕ) → j < l.start → Misfits cycle l.head j n c → l.fewest ≤ c;
      least : (j c : ℕ) → j < l.best → Misfits cycle l.head j n c → l.fewest < c;
    }
