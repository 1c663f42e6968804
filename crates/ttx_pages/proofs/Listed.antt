-- The lines of headers, from maps with the counts of the slots.
use Rattle.std.proofs.Common.{◌≡◌, List, ℕ, [], if◌then◌else◌}
use Rattle.std.specs.List.{flat_map}
use Rattle.ttx_header.specs.Headers.{header_fields_of, is_header}
use Rattle.ttx_pages.specs.Counting.{CountsByPage, counted_line}
use Rattle.ttx_pages.specs.Keys.{page_key}
use Rattle.ttx_pages.specs.Lines.{listed_line}
use Rattle.ttx_pages.specs.Listing.{header_line}
use Rattle.ttx_pages.specs.declared.keys.Part.TheVariants.{Head, Row, Links}
use Rattle.ttx_pages.specs.declared.listing.Sent.{Sent}

pub record HasCounts (slots : List (List ℕ)) (all : Sent) : Type 0 where
  pub heads : CountsByPage Head slots all.heads
  pub rows : CountsByPage Row slots all.rows
  pub links : CountsByPage Links slots all.links

line_is : (slots : List (List ℕ)) (all : Sent) (slot : List ℕ) → HasCounts slots all → counted_line all slot ≡ header_line slots slot
unfolding counted_line header_line
line_is slots all slot h = λ i.
    let fields = header_fields_of slot in
    let key = page_key fields.id in
    if is_header slot then listed_line fields.id (h.heads key i) (h.rows key i) (h.links key i) fields.control fields.text else []

pub lines_are : (slots : List (List ℕ)) (all : Sent) (headers : List (List ℕ)) → HasCounts slots all →
    flat_map (counted_line all) headers ≡ flat_map (header_line slots) headers
lines_are slots all headers h = λ i. flat_map (λ slot. line_is slots all slot h i) headers
