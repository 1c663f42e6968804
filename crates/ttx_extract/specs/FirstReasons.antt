-- The first page that isn't sent unchanged, as the program finds it, and what two slots say.
--
--   TellsPage               the page and its reason
--   HoldsText, HoldsContent the packet is a row with these characters, or an X/27/0 with these links
use Rattle.std.specs.Prelude.{◌≡◌, ℕ, ◌<◌, List, slice_get, Option, Some}
use Rattle.ttx_links.specs.Sets.{LinkSet}
use Rattle.ttx_page.specs.Packets.{Packet, Row, Links}
use Rattle.ttx_page.specs.Pages.{Page}
use Rattle.ttx_page.specs.Steady.{Steady}
use Rattle.ttx_page.specs.Streams.{repeated}
use Rattle.ttx_witness.specs.faults.Faults.{IsPageFault}
use Rattle.ttx_extract.specs.declared.unlike_pages.Told.{Told}

-- the page has the reason, and each page before it is sent unchanged
pub record TellsPage (slots : List (List ℕ)) (pages : List Page) (told : Told) : Type 0 where
  pub page : Page
  pub here : slice_get pages told.index ≡ Some page
  pub page_is : told.page ≡ page.id
  pub fault : IsPageFault slots pages page (Some told.reason)
  pub earlier : (n : ℕ) (p : Page) → n < told.index → slice_get pages n ≡ Some p → Steady (repeated slots) pages p

abbrev pub HoldsText : List ℕ → Packet → Type 0
HoldsText text packet = (mag number : ℕ) × (packet ≡ Row mag number text)

abbrev pub HoldsContent : Option LinkSet → Packet → Type 0
HoldsContent content packet = (mag : ℕ) × (packet ≡ Links mag content)
