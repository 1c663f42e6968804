use Rattle.std.proofs.Common.{◌≡◌, ℕ, ◌<◌, length}
use Rattle.ttx_page.specs.Memories.{memory_row}
use Rattle.ttx_page.specs.Views.{memory_of}
use Rattle.ttx_render.specs.Touch.{AreSetAlike}
use Rattle.ttx_render.proofs.cache.Cache.touch_all.Given as goal

abbrev pub invariant-loop-row : goal.invariant-loop-row
invariant-loop-row l = record {
  settings : AreSetAlike l.self (memory_of l.memory);
  size : length l.self.rows ≡ 25;
  rows : (k : ℕ) → k < l.row → memory_row l.self k ≡ memory_row (memory_of l.memory) k;
}
