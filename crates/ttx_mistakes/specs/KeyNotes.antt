-- The warnings about keys that no table takes (profile).
--
--   key_note, unknown_notes the warning about a key; those about a table
--   table_notes, page_notes, pages_notes    those about a value, about the table of a page, about those of all pages
--   key_notes               those about a text
use Rattle.std.specs.Prelude.{ℕ, ◌+◌, false, if◌then◌else◌, List, [], ◌∷◌, ◌++◌, codes, Option, Some, None}
use Rattle.toml.specs.Data.{Data, Items, no_items, item, Members, no_members, member, get_member, as_table}
use Rattle.ttx_check.specs.Parts.{items_in}
use Rattle.ttx_check.specs.Spots.{page_id}
use Rattle.ttx_check.specs.UnknownKeys.{is_one_of, service_keys, info_keys, page_keys, key_words}
use Rattle.ttx_places.specs.Paths.{below, page_path}
use Rattle.ttx_mistakes.specs.Notes.{Note, note}

-- a key of the table with this path and this name, whose known keys are these names
abbrev pub key_note : List ℕ → List ℕ → List (List ℕ) → List ℕ → Note
key_note path place names key = note false (below path key) None (place ++ key_words names key)

abbrev pub unknown_notes : List ℕ → List ℕ → List (List ℕ) → Members → List Note
unknown_notes path place names no_members = []
unknown_notes path place names (member key value table) =
    (if is_one_of names key then [] else key_note path place names key ∷ []) ++ unknown_notes path place names table

abbrev pub table_notes : List ℕ → List ℕ → List (List ℕ) → Option Members → List Note
table_notes path place names None = []
table_notes path place names (Some table) = unknown_notes path place names table

abbrev pub info_notes : Option Data → List Note
info_notes None = []
info_notes (Some value) = table_notes (codes "/info") (codes "info") info_keys (as_table value)

-- the page with this number in the text
abbrev pub page_notes : ℕ → Option Members → List Note
page_notes page None = []
page_notes page (Some table) = unknown_notes (page_path page) (codes "page " ++ page_id table page) page_keys table

abbrev pub pages_notes : ℕ → Items → List Note
pages_notes page no_items = []
pages_notes page (item value values) = page_notes page (as_table value) ++ pages_notes (page + 1) values

unfoldable pub key_notes : Members → List Note
key_notes table =
    unknown_notes [] (codes "service") service_keys table ++ info_notes (get_member (codes "info") table)
    ++ pages_notes 1 (items_in (get_member (codes "page") table))
