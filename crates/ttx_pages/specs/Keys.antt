-- Pages as numbers, and the page to which a packet belongs (EN 300 706, 9.3.1: a header opens a page of its magazine).
--
--   page_key                a page as one number; these rise by magazine, page number and subcode, and none is 0
--   all_below               numbers, rising
--   is_header_of, page_headers    a header of the page; the first header of each page
--   opened, opens           the page that each magazine has open after a slot, and after slots; 0 if it has none
--   page_open_at, owners_from, owners      the page of each slot of a cycle that is sent again and again
--   sent_key, keys_from, keys_sent      the same for its headers, rows or packets X/27/0 only
use Rattle.std.specs.Prelude.{ℕ, ◌+◌, ◌*◌, ◌-◌, Bool, ◌&&◌, ◌==◌, List, [], ◌∷◌, ◌++◌, fold, replicate, slice_index, slice_set, Option, Some, None}
use Rattle.std.specs.Prelude.{if◌then◌else◌}
use Rattle.std.specs.List.{find, flat_map, range_with_len}
use Rattle.ttx_header.specs.Headers.{id_of, is_header}
use Rattle.ttx_header.specs.Ids.{Id}
use Rattle.ttx_packet.specs.Slots.{Kind, kind_of}
use Rattle.ttx_pages.specs.Places.{magazine_place_in, open_key, magazine_place}
use Rattle.ttx_pages.specs.declared.keys.Part.{Part}

abbrev pub page_key : Id → ℕ
page_key id = (id.mag * 256 + id.page) * 16384 + id.sub

-- the numbers below n, rising
unfoldable pub all_below : ℕ → List ℕ
all_below n = range_with_len 0 n

-- a header of the page
abbrev pub is_header_of : ℕ → List ℕ → Bool
is_header_of key slot = is_header slot && (page_key (id_of slot) == key)

-- a header, if there is one
abbrev pub header_list : Option (List ℕ) → List (List ℕ)
header_list None = []
header_list (Some slot) = slot ∷ []

-- the first header of each page that has one, by rising numbers; the last number of magazine 8 is 37748735
abbrev pub page_headers : List (List ℕ) → List (List ℕ)
page_headers slots = flat_map (λ key. header_list (find (is_header_of key) slots)) (all_below 37748736)

-- a header opens its page in its magazine
abbrev pub opened : List ℕ → List ℕ → List ℕ
opened current slot = if is_header slot then slice_set current ((id_of slot).mag - 1) (page_key (id_of slot)) else current

-- the pages that the eight magazines have open after these slots
abbrev pub opens : List (List ℕ) → List ℕ
opens slots = fold opened (replicate 8 0) slots

-- the page that the magazine of a packet has open; 0 for a packet that belongs to no page
abbrev pub page_open_at : List ℕ → Option ℕ → ℕ
page_open_at current None = 0
page_open_at current (Some place) = slice_index current place

abbrev pub owners_from : List ℕ → List (List ℕ) → List ℕ
owners_from current [] = []
owners_from current (slot ∷ slots) = page_open_at (opened current slot) (magazine_place (kind_of slot)) ∷ owners_from (opened current slot) slots

-- the page to which each slot of a cycle belongs; a page that is open at the end of the cycle is open at its beginning
abbrev pub owners : List (List ℕ) → List ℕ
owners slots = owners_from (opens slots) slots

-- the page to which a packet of this part belongs: the one that its magazine has open
abbrev pub sent_key : Part → List ℕ → Kind → List ℕ
sent_key part current kind = open_key current (magazine_place_in part kind)

abbrev pub keys_from : Part → List ℕ → List (List ℕ) → List ℕ
keys_from part current [] = []
keys_from part current (slot ∷ slots) = sent_key part (opened current slot) (kind_of slot) ++ keys_from part (opened current slot) slots

-- the pages of a cycle's packets of this part, in the order of their slots
abbrev pub keys_sent : Part → List (List ℕ) → List ℕ
keys_sent part slots = keys_from part (opens slots) slots
