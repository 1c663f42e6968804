use Rattle.std.proofs.Common.{◌≡◌, ℕ, ◌<◌, Some, slice_get, map}
use Rattle.toml.specs.Data.{Members}
use Rattle.toml.specs.View.{table_view}
use Rattle.ttx_page.specs.Pages.{Page}
use Rattle.ttx_page.specs.Views.{page_of}
use Rattle.ttx_desk.specs.Said.{author_page, SaysPage}
use Rattle.ttx_desk.proofs.said.says_texts.Given as goal

abbrev pub invariant-loop-index : goal.invariant-loop-index
invariant-loop-index l =
    (k : ℕ) → k < l.index → (page : Page) → slice_get (map page_of l.pages) k ≡ Some page
    → (table : Members) × (author_page (table_view l.author) k ≡ Some table) × SaysPage table page
