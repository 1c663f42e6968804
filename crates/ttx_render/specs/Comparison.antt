-- How Views are compared: except for the header clock and the receiver's own columns of row 0.
use Rattle.std.specs.Prelude.{◌≡◌, ◌<◌, ◌≤◌, ℕ, [], slice_index_or}
use Rattle.ttx_render.specs.declared.cells.Cell.{Cell}
use Rattle.ttx_render.specs.Cells.{space_cell}
use Rattle.ttx_render.specs.View.{Screen}

abbrev pub cell_in : Screen → ℕ → ℕ → Cell
cell_in view number c = slice_index_or (slice_index_or view.cells number []) c space_cell

-- the cells that are compared: all except columns 0 to 7 and 32 to 39 of row 0
abbrev pub IsCompared : ℕ → ℕ → Type 0
IsCompared number c = (number < 25) × (c < 40) × (number ≡ 0 → (8 ≤ c) × (c < 32))

-- equal links, and equal cells wherever cells are compared
pub record SameButClock (v w : Screen) : Type 0 where
  pub links : v.links ≡ w.links
  pub cells : (number c : ℕ) → IsCompared number c → cell_in v number c ≡ cell_in w number c
