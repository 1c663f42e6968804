use Rattle.std.proofs.Common.{◌≡◌, ℕ, ◌+◌, ◌%◌, ◌<◌, ◌≤◌, cond, eqb, get_or, length}
use Rattle.ttx_plan.proofs.spread.add_packets.Given as goal

abbrev pub invariant-loop-round : goal.invariant-loop-round
invariant-loop-round l = record {
  size : length l.packets ≡ length l.fn.packets;
  passed : (round : ℕ) → round < l.round → get_or l.packets round 0
      ≡ get_or l.fn.packets round 0 + cond (eqb (round % l.period) l.place) l.count 0;
  rest : (round : ℕ) → l.round ≤ round → get_or l.packets round 0 ≡ get_or l.fn.packets round 0;
}
