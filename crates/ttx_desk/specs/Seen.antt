-- What an author writes is what the viewers see.
--
--   TextsAreSeen            each cell of a composed page's View shows what the author wrote into it
use Rattle.std.specs.Prelude.{◌≡◌, ◌+◌, ◌<◌, ℕ, suc, Some, length, slice_get}
use Rattle.toml.specs.Data.{Members}
use Rattle.ttx_page.specs.Memories.{memory_of_page}
use Rattle.ttx_page.specs.Pages.{Page}
use Rattle.ttx_render.specs.Laws.{IsOwn}
use Rattle.ttx_source.specs.Services.{ServiceFields, pages_of}
use Rattle.ttx_author.specs.Seen.{CellShows, mark_at}
use Rattle.ttx_desk.specs.Said.{author_page, author_head, author_row, SaysTexts}

-- Of a page of a service that says an author's texts: each cell of rows 1 to 24 that is shown and not hidden, and each cell of the head,
-- shows the character that stands for it, or these blocks, in the order written. A control code shows a space, or the held mosaic; a
-- concealed cell has its glyph, which is seen when it is revealed.
pub record IsSeen (author : Members) (page : Page) : Type 0 where
  pub rows : (index c : ℕ) → index < 24 → IsOwn (memory_of_page page) (suc index) c
      → CellShows (memory_of_page page) (suc index) c (mark_at (author_row author index) c)
  pub head : (c : ℕ) → IsOwn (memory_of_page page) 0 (8 + c) → CellShows (memory_of_page page) 0 (8 + c) (mark_at (author_head author) c)

abbrev pub TextsAreSeen : Type 0
TextsAreSeen =
    (author : Members) (service : ServiceFields) → SaysTexts author service → (index : ℕ) (page : Page) → length page.head ≡ 24
    → slice_get (pages_of service) index ≡ Some page → (table : Members) × (author_page author index ≡ Some table) × IsSeen table page
