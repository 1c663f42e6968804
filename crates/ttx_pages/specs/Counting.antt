-- Counts of packets, in maps by the number of the page.
use Rattle.std.specs.Prelude.{◌≡◌, ℕ, List, [], if◌then◌else◌}
use Rattle.std.specs.BTreeMap.{BTreeMap}
use Rattle.ttx_header.specs.Headers.{header_fields_of, is_header}
use Rattle.ttx_tallies.specs.Tallies.{times_in}
use Rattle.ttx_pages.specs.Keys.{page_key}
use Rattle.ttx_pages.specs.Lines.{listed_line}
use Rattle.ttx_pages.specs.Listing.{times}
use Rattle.ttx_pages.specs.declared.keys.Part.{Part}
use Rattle.ttx_pages.specs.declared.listing.Sent.{Sent}

-- the map has the count of each page
abbrev pub CountsByPage : Part → List (List ℕ) → BTreeMap ℕ ℕ → Type 0
CountsByPage part slots counts = (q : ℕ) → times_in counts q ≡ times part slots q

-- the line of a page, with the counts in the maps
unfoldable pub counted_line : Sent → List ℕ → List ℕ
counted_line all slot =
    let h = header_fields_of slot in
    let key = page_key h.id in
    if is_header slot then listed_line h.id (times_in all.heads key) (times_in all.rows key) (times_in all.links key) h.control h.text else []
