-- A page that is read in two parts.
--
--   page_in       the page with these rows
use Rattle.std.specs.Prelude.{ℕ, List}
use Rattle.ttx_page.specs.Pages.{Page, page_at}
use Rattle.ttx_source.specs.declared.page_table.Frame.{Frame}

abbrev pub page_in : Frame → List (List ℕ) → Page
page_in frame rows = page_at frame.id frame.control.0 frame.head rows frame.links.set frame.links.crc
