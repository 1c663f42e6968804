-- The pages that the headers of a cycle name (profile).
--
--   with_id, with_name      ids, and one more if it is new; and that of a header
--   named_after, named      the ids that headers name in the first slots of a cycle, and in all, in the order of their first headers
use Rattle.std.specs.Prelude.{ℕ, zero, suc, List, [], ◌∷◌, ◌++◌, length, slice_index_or, ◌==◌, if◌then◌else◌}
use Rattle.std.specs.List.{list_any}
use Rattle.ttx_header.specs.Ids.{Id, same_id}
use Rattle.ttx_page.specs.Packets.{Packet, Header, packet_of}

-- page number FF is time-filling, and no page's (EN 300 706, 9.3.1)
abbrev pub with_id : List Id → Id → List Id
with_id ids id = if id.page == 255 then ids else if list_any (same_id id) ids then ids else ids ++ id ∷ []

abbrev pub with_name : List Id → Packet → List Id
with_name ids (Header id control text) = with_id ids id
with_name ids packet = ids

unfoldable pub named_after : List (List ℕ) → ℕ → List Id
named_after slots zero = []
named_after slots (suc n) = with_name (named_after slots n) (packet_of (slice_index_or slots n []))

abbrev pub named : List (List ℕ) → List Id
named slots = named_after slots (length slots)
