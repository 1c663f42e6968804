-- The links of a page as authored (EN 300 706, 9.6.1).
--
--   HasLinks                the page's links and CRC are those of a packet X/27/0
use Rattle.std.specs.Prelude.{◌≡◌, ℕ, length, slice_get, Some}
use Rattle.ttx_header.specs.Ids.{Id}
use Rattle.ttx_links.specs.Sets.{IsTarget}
use Rattle.ttx_page.specs.Pages.{Page}

-- six links, each of which leads to a target or nowhere, and two CRC bytes
pub record HasLinks (p : Page) : Type 0 where
  pub six : length p.links.six ≡ 6
  pub crc : length p.crc ≡ 2
  pub targets : (k : ℕ) (target : Id) → slice_get p.links.six k ≡ Some (Some target) → IsTarget target
