use Rattle.std.proofs.Common.{◌≡◌, ◌⊎◌, ℕ, ◌+◌, ◌*◌, ◌<◌, ◌≤◌, get_or, length}
use Rattle.ttx_plan.specs.Blocks.{placed}
use Rattle.ttx_plan.specs.Carries.{blocks_of}
use Rattle.ttx_plan.specs.Ranges.{IsOften}
use Rattle.ttx_plan.specs.Spreading.{AreCounted, IsSpreadTo}
use Rattle.ttx_plan.proofs.spread.spread_places.Given as goal

abbrev pub invariant-loop-often : goal.invariant-loop-often
invariant-loop-often l = record {
  often : (l.often ≡ 0) ⊎ IsOften l.often;
  enough : length l.places ≡ 2000;
  small : (at : ℕ) → get_or l.places at 0 < 8;
  spread : IsSpreadTo l.class l.service.pages l.places l.often 0;
  counted : AreCounted l.packets (placed l.places (blocks_of l.class l.service.pages)) l.often 0;
  room : (round : ℕ) → get_or l.packets round 0 + 52000 * l.often ≤ 416000;
}

abbrev pub decreases-loop-often : goal.decreases-loop-often
decreases-loop-often l = l.often
