-- The objects of headers, from maps with the counts of the slots.
use Rattle.std.proofs.Common.{◌≡◌, List, ℕ, [], if◌then◌else◌}
use Rattle.std.specs.List.{flat_map}
use Rattle.ttx_header.specs.Headers.{header_fields_of, is_header}
use Rattle.ttx_json.specs.Objects.{object_line}
use Rattle.ttx_pages.specs.CountedRecords.{counted_record}
use Rattle.ttx_pages.specs.Keys.{page_key}
use Rattle.ttx_pages.specs.Records.{listed_members, header_record}
use Rattle.ttx_pages.specs.declared.listing.Sent.{Sent}
use Rattle.ttx_pages.proofs.Listed.{HasCounts}

record_is : (slots : List (List ℕ)) (all : Sent) (slot : List ℕ) → HasCounts slots all → counted_record all slot ≡ header_record slots slot
unfolding counted_record header_record
record_is slots all slot h = λ i.
    let fields = header_fields_of slot in
    let key = page_key fields.id in
    if is_header slot then object_line (listed_members fields.id (h.heads key i) (h.rows key i) (h.links key i) fields.control fields.text) else []

pub records_are : (slots : List (List ℕ)) (all : Sent) (headers : List (List ℕ)) → HasCounts slots all →
    flat_map (counted_record all) headers ≡ flat_map (header_record slots) headers
records_are slots all headers h = λ i. flat_map (λ slot. record_is slots all slot h i) headers
