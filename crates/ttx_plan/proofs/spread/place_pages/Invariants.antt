use Rattle.std.proofs.Common.{ℕ, ◌+◌, ◌*◌, ◌<◌, ◌≤◌, get_or, length}
use Rattle.ttx_plan.specs.Blocks.{placed}
use Rattle.ttx_plan.specs.Carries.{blocks_of}
use Rattle.ttx_plan.specs.Spreading.{AreCounted, IsSpreadTo}
use Rattle.ttx_plan.proofs.spread.place_pages.Given as goal

abbrev pub invariant-loop-index : goal.invariant-loop-index
invariant-loop-index l = record {
  enough : length l.service.pages ≤ length l.places;
  small : (at : ℕ) → get_or l.places at 0 < 8;
  spread : IsSpreadTo l.class l.service.pages l.places l.often l.index;
  counted : AreCounted l.packets (placed l.places (blocks_of l.class l.service.pages)) l.often l.index;
  room : (round : ℕ) → get_or l.packets round 0 ≤ get_or l.fn.packets round 0 + 26 * l.index;
}
