-- A service that says what an author wrote.
--
--   author_head, author_row       the texts of a page
--   SaysPage, SaysTexts     each option, head and row of a service is what the author wrote
use Rattle.std.specs.Prelude.{◌≡◌, ℕ, ◌<◌, List, [], codes, Option, Some, None, Ok, option_and_then, slice_get, slice_index_or}
use Rattle.toml.specs.Data.{Members, get_member, get_item, as_table}
use Rattle.ttx_header.specs.Control.{option_of}
use Rattle.ttx_page.specs.Pages.{Page}
use Rattle.ttx_source.specs.Services.{ServiceFields, pages_of}
use Rattle.ttx_author.specs.Rows.{line_of}
use Rattle.ttx_desk.specs.declared.mistakes.Part.{Part}
use Rattle.ttx_desk.specs.Tables.{text_at, table_at, array_at}
use Rattle.ttx_desk.specs.Rows.{characters_of, lines_in, written_row}
use Rattle.ttx_desk.specs.Pages.{option_in}

-- the characters of `head`; none where there is no head
abbrev pub author_head : Members → List ℕ
author_head page = characters_of (text_at (codes "head") page)

-- the characters of `text` of a page
abbrev pub page_lines : Option Members → List ℕ
page_lines None = []
page_lines (Some rows) = lines_in rows

abbrev pub text_in : Option (Part × List ℕ) → List ℕ
text_in None = []
text_in (Some row) = row.1

abbrev pub row_in : List ℕ → Option Members → ℕ → List ℕ
row_in lines None index = []
row_in lines (Some rows) index = text_in (written_row lines rows index)

-- the characters of a row; index 0 is row 1
abbrev pub author_row : Members → ℕ → List ℕ
author_row page index = row_in (page_lines (table_at (codes "rows") page)) (table_at (codes "rows") page) index

-- a page of a service has the option, the head and the rows that the author's page has
pub record SaysPage (author : Members) (page : Page) : Type 0 where
  pub option : option_in (get_member (codes "option") author) ≡ Some (option_of page.control)
  pub head : line_of 24 (option_of page.control) (author_head author) ≡ Ok page.head
  pub rows : (index : ℕ) → index < 24 → line_of 40 (option_of page.control) (author_row author index) ≡ Ok (slice_index_or page.rows index [])

-- the author's page at an index
abbrev pub author_page : Members → ℕ → Option Members
author_page author index = option_and_then as_table (option_and_then (get_item index) (array_at (codes "page") author))

-- each page of the service says what the author's page at its index says
abbrev pub SaysTexts : Members → ServiceFields → Type 0
SaysTexts author service =
    (index : ℕ) (page : Page) → slice_get (pages_of service) index ≡ Some page
    → (table : Members) × (author_page author index ≡ Some table) × SaysPage table page
