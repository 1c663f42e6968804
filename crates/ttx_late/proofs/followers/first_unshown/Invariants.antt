use Rattle.std.proofs.Common.{◌≡◌, ◌<◌, ℕ, Some, map, slice_get}
use Rattle.ttx_page.specs.Pages.{Page}
use Rattle.ttx_page.specs.Streams.{repeated}
use Rattle.ttx_page.specs.Views.{page_of}
use Rattle.ttx_late.specs.Followed.{IsFollowedAt}
use Rattle.ttx_late.proofs.followers.first_unshown.Given as goal

abbrev pub invariant-loop-at : goal.invariant-loop-at
invariant-loop-at l = record {
  before : (i n : ℕ) (p : Page) → i < l.at → slice_get (map page_of l.pages) n
      ≡ Some p → IsFollowedAt (repeated l.slots) p.id i;
}
