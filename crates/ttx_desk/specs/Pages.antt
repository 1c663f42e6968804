-- A page as an author writes it, as a table of a service.
--
--   option_in               the national option of a page
--   option_put, rows_put    a table with the number of the option, and with rows by number
--   page_table              the page with its texts as codes
--   page_mistakes           its mistakes
use Rattle.std.specs.Prelude.{ℕ, ℤ, pos, negsuc, List, [], ◌∷◌, ◌++◌, codes, Option, Some, None, option_map, nat_lt, if◌then◌else◌}
use Rattle.std.specs.List.{position}
use Rattle.std.specs.Str.{chars, bytes_eq}
use Rattle.toml.specs.Data.{Data, Members, get_member, as_integer, as_str, integer, table}
use Rattle.ttx_author.specs.Options.{option_names}
use Rattle.ttx_desk.specs.Tables.{put, text_at, table_at}
use Rattle.ttx_desk.specs.Mistakes.{mistake}
use Rattle.ttx_desk.specs.Texts.{text_put, text_mistakes}
use Rattle.ttx_desk.specs.Rows.{lines_in, rows_table, rows_mistakes}
use Rattle.ttx_desk.specs.declared.mistakes.Mistake.{Mistake}
use Rattle.ttx_desk.specs.declared.mistakes.Part.TheVariants.{Option as TheOption, Head}
use Rattle.ttx_desk.specs.declared.mistakes.Fault.TheVariants.{Name}

-- the characters of a text, if there is one
abbrev pub chars_in : Option (List ℕ) → Option (List ℕ)
chars_in text = option_map chars text

abbrev pub option_numbered : ℤ → Option ℕ
option_numbered (pos n) = if nat_lt n 8 then Some n else None
option_numbered (negsuc n) = None

abbrev pub option_named : List ℕ → Option ℕ
option_named name = position (λ known. bytes_eq known name) option_names

abbrev pub option_from : Option ℤ → Option (List ℕ) → Option ℕ
option_from (Some number) name = option_numbered number
option_from None None = None
option_from None (Some name) = option_named name

-- a number from 0 to 7 or a name; English (0) where the page has no option
abbrev pub option_in : Option Data → Option ℕ
option_in None = Some 0
option_in (Some value) = option_from (as_integer value) (as_str value)

abbrev pub option_put : ℕ → Option Data → Members → Members
option_put option None page = page
option_put option (Some value) page = put (codes "option") (integer (pos option)) page

abbrev pub rows_put : ℕ → Option Members → Members → Members
rows_put option None page = page
rows_put option (Some rows) page = put (codes "rows") (table (rows_table option rows)) page

abbrev pub head_put : ℕ → Members → Members → Members
head_put option page out = text_put 24 option (codes "head") (chars_in (text_at (codes "head") page)) out

abbrev pub page_under : Option ℕ → Members → Members
page_under None page = page
page_under (Some option) page =
    rows_put option (table_at (codes "rows") page) (head_put option page (option_put option (get_member (codes "option") page) page))

-- a page whose option has no name or number stays as it is
unfoldable pub page_table : Members → Members
page_table page = page_under (option_in (get_member (codes "option") page)) page

abbrev pub name_mistakes : ℕ → Option (List ℕ) → List Mistake
name_mistakes number None = []
name_mistakes number (Some name) = mistake number TheOption 0 Name ∷ []

abbrev pub mistakes_in_rows : ℕ → ℕ → Option Members → List Mistake
mistakes_in_rows number option None = []
mistakes_in_rows number option (Some rows) = rows_mistakes number option (lines_in rows) rows

abbrev pub mistakes_under : ℕ → Option ℕ → Members → List Mistake
mistakes_under number None page = name_mistakes number (text_at (codes "option") page)
mistakes_under number (Some option) page =
    text_mistakes 24 option number Head (chars_in (text_at (codes "head") page)) ++ mistakes_in_rows number option (table_at (codes "rows") page)

-- the mistakes of a page, counted from 1
unfoldable pub page_mistakes : ℕ → Members → List Mistake
page_mistakes number page = mistakes_under number (option_in (get_member (codes "option") page)) page
