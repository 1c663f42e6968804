-- Memories that differ only in rows, and the rows of their Views.
--
--   AreSetAlike             memories with the same control bits and links
--   DiffersAt               memories that show the same except perhaps in one row
--   IsView                  the cells of the View of a memory
use Rattle.std.specs.Prelude.{◌≡◌, ◌≢◌, ◌<◌, ℕ, List, [], length, slice_index_or}
use Rattle.ttx_page.specs.Memories.{Memory}
use Rattle.ttx_render.specs.declared.cells.Cell.{Cell}
use Rattle.ttx_render.specs.View.{view_row}

-- the same control bits and links, so that the Views differ only where the rows do
pub record AreSetAlike (m n : Memory) : Type 0 where
  pub control : m.control ≡ n.control
  pub links : m.links ≡ n.links

-- what the View shows of two memories is the same except perhaps in one row
pub record DiffersAt (m n : Memory) (row : ℕ) : Type 0 where
  pub control : m.control ≡ n.control
  pub show24 : m.links.show24 ≡ n.links.show24
  pub others : (k : ℕ) → k ≢ row → slice_index_or m.rows k [] ≡ slice_index_or n.rows k []

-- 25 rows of cells, each as in the View of the memory
pub record IsView (m : Memory) (cells : List (List Cell)) : Type 0 where
  pub size : length cells ≡ 25
  pub rows : (k : ℕ) → k < 25 → slice_index_or cells k [] ≡ view_row m k
