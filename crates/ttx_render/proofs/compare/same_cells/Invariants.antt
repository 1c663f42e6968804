use Rattle.std.proofs.Common.{◌≡◌, ℕ, ◌<◌, ◌≤◌, get_or}
use Rattle.ttx_render.specs.Cells.{space_cell}
use Rattle.ttx_render.proofs.compare.same_cells.Given as goal

abbrev pub invariant-loop-c : goal.invariant-loop-c
invariant-loop-c l = (c : ℕ) → l.from ≤ c → c < l.c → get_or l.a c space_cell ≡ get_or l.b c space_cell
