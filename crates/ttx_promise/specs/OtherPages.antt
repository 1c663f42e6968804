-- Pages that are on the air, and not in the service.
--
--   is_other, other_in      an id of a page that isn't among these; the page of a header, if it is none of these
--   other_pages             the pages of the headers of a cycle that are none of these
--   ids_text, others_text   the names of pages; the line of pages that aren't in the service
use Rattle.std.specs.Prelude.{ℕ, Bool, not, ◌&&◌, ◌==◌, if◌then◌else◌, List, [], ◌∷◌, ◌++◌, codes}
use Rattle.std.specs.List.{flat_map, list_any}
use Rattle.ttx_header.specs.Headers.{id_of, is_header}
use Rattle.ttx_header.specs.Ids.{Id, same_id}
use Rattle.ttx_digits.specs.PageIds.{id_text}
use Rattle.ttx_pages.specs.Keys.{page_headers}

-- FF is the number of time-filling headers
abbrev pub is_other : List Id → Id → Bool
is_other ids id = not (id.page == 0xff) && not (list_any (same_id id) ids)

abbrev pub other_in : List Id → List ℕ → List Id
other_in ids slot = if is_header slot && is_other ids (id_of slot) then id_of slot ∷ [] else []

-- by rising page numbers
abbrev pub other_pages : List (List ℕ) → List Id → List Id
other_pages cycle ids = flat_map (other_in ids) (page_headers cycle)

abbrev pub ids_text : List Id → List ℕ
ids_text [] = []
ids_text (id ∷ ids) = 32 ∷ id_text id ++ ids_text ids

abbrev pub others_text : List Id → List ℕ
others_text [] = []
others_text (id ∷ ids) = codes "not in the service:" ++ ids_text (id ∷ ids) ++ 10 ∷ []
