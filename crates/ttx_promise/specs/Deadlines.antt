-- The least deadlines of the pages of a cycle.
--
--   fields_of               the deadline of a page that has one
--   AreDeadlines            the least deadline with which each page alone is accepted
use Rattle.std.specs.Prelude.{◌≡◌, ℕ, List, length, slice_get, Some}
use Rattle.ttx_page.specs.Pages.{Page}
use Rattle.ttx_page.specs.declared.class.Class.{Class}
use Rattle.ttx_witness.specs.wait_times.PageWaits.{CanAccept, IsLeast}
use Rattle.ttx_witness.specs.declared.wait_times.wait.Wait.{Wait}
use Rattle.ttx_witness.specs.declared.wait_times.wait.Wait.TheVariants.{Fields}

abbrev pub fields_of : Wait → ℕ
fields_of (Fields fields item) = fields
fields_of _ = 0

-- each page has one, in the order of the pages
pub record AreDeadlines (cycle : List (List ℕ)) (pages : List Page) (class : Class) (repeat lines : ℕ) (deadlines : List ℕ) : Type 0 where
  pub count : length deadlines ≡ length pages
  pub each : (index : ℕ) (p : Page) → slice_get pages index ≡ Some p → IsLeast (CanAccept cycle pages p class repeat lines) (slice_get deadlines index)
