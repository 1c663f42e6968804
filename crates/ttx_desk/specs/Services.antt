-- An author's text as the table of a service.
--
--   service_table           the table of the service that an author's table means
--   mistakes                the mistakes of an author's table
use Rattle.std.specs.Prelude.{ℕ, ◌+◌, List, [], ◌++◌, codes, Option, Some, None}
use Rattle.toml.specs.Data.{Data, Items, no_items, item, Members, as_table, table, array}
use Rattle.ttx_desk.specs.Tables.{put, without, text_at, table_at, array_at}
use Rattle.ttx_desk.specs.Texts.{text_put, text_mistakes}
use Rattle.ttx_desk.specs.Pages.{chars_in, page_table, page_mistakes}
use Rattle.ttx_desk.specs.declared.mistakes.Mistake.{Mistake}
use Rattle.ttx_desk.specs.declared.mistakes.Part.TheVariants.{Status}

-- what is no table stays as it is
abbrev pub page_or : Data → Option Members → Data
page_or value None = value
page_or value (Some page) = table (page_table page)

abbrev pub page_value : Data → Data
page_value value = page_or value (as_table value)

abbrev pub map_items : (Data → Data) → Items → Items
map_items f no_items = no_items
map_items f (item value values) = item (f value) (map_items f values)

abbrev pub pages_put : Option Items → Members → Members
pages_put None out = out
pages_put (Some pages) out = put (codes "page") (array (map_items page_value pages)) out

-- the status display of packet 8/30 has 20 cells, and the characters of English
abbrev pub info_table : Members → Members
info_table info = text_put 20 0 (codes "text") (chars_in (text_at (codes "text") info)) info

abbrev pub info_put : Option Members → Members → Members
info_put None out = out
info_put (Some info) out = put (codes "info") (table (info_table info)) out

-- the table of a service: pages and packet 8/30 with texts as codes, and no `author`
unfoldable pub service_table : Members → Members
service_table author =
    pages_put (array_at (codes "page") author) (info_put (table_at (codes "info") author) (without (codes "author") author))

abbrev pub info_mistakes : Option Members → List Mistake
info_mistakes None = []
info_mistakes (Some info) = text_mistakes 20 0 0 Status (chars_in (text_at (codes "text") info))

abbrev pub value_mistakes : ℕ → Option Members → List Mistake
value_mistakes number None = []
value_mistakes number (Some page) = page_mistakes number page

-- those of pages, the first of which has this number
unfoldable pub pages_mistakes : ℕ → Items → List Mistake
pages_mistakes number no_items = []
pages_mistakes number (item value values) = value_mistakes number (as_table value) ++ pages_mistakes (number + 1) values

abbrev pub mistakes_in_pages : Option Items → List Mistake
mistakes_in_pages None = []
mistakes_in_pages (Some pages) = pages_mistakes 1 pages

unfoldable pub mistakes : Members → List Mistake
mistakes author = info_mistakes (table_at (codes "info") author) ++ mistakes_in_pages (array_at (codes "page") author)
