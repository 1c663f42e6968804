use Rattle.std.proofs.Common.{◌≡◌, ◌<◌, ℕ, slice_get, Some, map}
use Rattle.ttx_cycle.specs.Cycles.{slots_of}
use Rattle.ttx_page.specs.Pages.{Page}
use Rattle.ttx_page.specs.Streams.{joined}
use Rattle.ttx_page.specs.Views.{page_of}
use Rattle.ttx_playout.specs.LateSchedules.{IsFollowedAcross}
use Rattle.ttx_playout.proofs.unfollowed_pages.first_unfollowed.Given as goal

abbrev pub invariant-loop-index : goal.invariant-loop-index
invariant-loop-index l = (i : ℕ) (q : Page) → i < l.index → slice_get (map page_of l.pages) i ≡ Some q →
    IsFollowedAcross (joined (slots_of l.old) (slots_of l.new)) q.id l.gap
