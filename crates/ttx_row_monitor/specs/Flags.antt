-- Which slots of a cycle send a row that a viewer sees.
--
--   is_needed_row           an item is such a row of a page
--   IsFlag, AreFlags        whether a slot does; for each slot of the cycle
use Rattle.std.specs.Prelude.{◌≡◌, ℕ, ◌<◌, ℤ, pos, Bool, false, List, length, slice_get, slice_index_or, Some}
use Rattle.ttx_page.specs.Pages.{Page, needed}
use Rattle.ttx_page.specs.declared.item.Item.{Item}
use Rattle.ttx_page.specs.declared.item.Item.TheVariants.{Head as TheHead, Row as TheRow, Links as TheLinks}
use Rattle.ttx_page.specs.Streams.{repeated, IsTransmission}

abbrev pub is_needed_row : Page → Item → Bool
is_needed_row p (TheRow r) = needed p (TheRow r)
is_needed_row p TheHead = false
is_needed_row p TheLinks = false

abbrev pub IsText : Item → Type 0
IsText TheLinks = ⊥
IsText _ = Unit {0}

-- the flag is that of the page's text item which the slot sends
abbrev pub IsFlag : List (List ℕ) → List Page → ℤ → Bool → Type 0
IsFlag cycle pages j flag =
    (i : ℕ) (p : Page) (item : Item) → slice_get pages i ≡ Some p → IsText item → IsTransmission (repeated cycle) p.id item j →
    flag ≡ is_needed_row p item

pub record AreFlags (cycle : List (List ℕ)) (pages : List Page) (flags : List Bool) : Type 0 where
  pub size : length flags ≡ length cycle
  pub each : (j : ℕ) → j < length cycle → IsFlag cycle pages (pos j) (slice_index_or flags j false)
