-- The objects of pages from counts in maps.
--
--   counted_record          the object of a page, with the counts in the maps
use Rattle.std.specs.Prelude.{ℕ, List, [], if◌then◌else◌}
use Rattle.ttx_header.specs.Headers.{header_fields_of, is_header}
use Rattle.ttx_json.specs.Objects.{object_line}
use Rattle.ttx_tallies.specs.Tallies.{times_in}
use Rattle.ttx_pages.specs.Keys.{page_key}
use Rattle.ttx_pages.specs.Records.{listed_members}
use Rattle.ttx_pages.specs.declared.listing.Sent.{Sent}

unfoldable pub counted_record : Sent → List ℕ → List ℕ
counted_record all slot =
    let h = header_fields_of slot in
    let key = page_key h.id in
    if is_header slot then object_line (listed_members h.id (times_in all.heads key) (times_in all.rows key) (times_in all.links key) h.control h.text)
    else []
