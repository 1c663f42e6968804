use Rattle.std.proofs.Common.{◌≡◌, ℕ, ◌<◌, ◌≤◌, length, get_or, []}
use Rattle.ttx_page.specs.Views.{memory_of}
use Rattle.ttx_render.specs.View.{is_below, view_row}
use Rattle.ttx_render.proofs.touch.retouch.Given as goal

abbrev pub invariant-loop-number : goal.invariant-loop-number
invariant-loop-number l = record {
  size : length l.cells ≡ 25;
  was : l.was ≡ is_below (memory_of l.old) l.number;
  now : l.now ≡ is_below (memory_of l.new) l.number;
  made : (k : ℕ) → k < l.number → get_or l.cells k [] ≡ view_row (memory_of l.new) k;
  left : (k : ℕ) → l.number ≤ k → k < 25 → get_or l.cells k [] ≡ view_row (memory_of l.old) k;
}
