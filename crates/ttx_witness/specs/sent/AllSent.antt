-- The transmissions of all items of all pages in one period of a cycle.
--
--   AreSentAfter            for each item of each page, the list kept has its transmissions in a first period after another cycle
--   AreAllSent              the same where the cycle follows itself
use Rattle.std.specs.Prelude.{◌≡◌, ℕ, ◌*◌, List, length, slice_get, Some}
use Rattle.ttx_page.specs.Pages.{Page}
use Rattle.ttx_page.specs.declared.item.Item.{Item}
use Rattle.ttx_witness.specs.sent.ItemTransmissions.{sent_after}
use Rattle.ttx_witness.specs.sent.Collected.{held, place_of_item, IsItem}
use Rattle.ttx_witness.specs.declared.sent.collected.Collected.{Collected}

pub record AreSentAfter (before cycle : List (List ℕ)) (pages : List Page) (lines : ℕ) (c : Collected) : Type 0 where
  pub count : length c.lists.items ≡ 26 * length pages
  pub each : (i : ℕ) (p : Page) (item : Item) → slice_get pages i ≡ Some p → IsItem item →
      held c.lists.items (place_of_item i item) ≡ sent_after before cycle p.id lines item

abbrev pub AreAllSent : List (List ℕ) → List Page → ℕ → Collected → Type 0
AreAllSent cycle pages lines c = AreSentAfter cycle cycle pages lines c
