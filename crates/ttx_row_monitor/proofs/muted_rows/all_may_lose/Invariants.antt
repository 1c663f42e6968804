use Rattle.std.proofs.Common.{◌≡◌, ◌<◌, ℕ, true, Some, map, slice_get}
use Rattle.ttx_page.specs.Packets.{packet_of}
use Rattle.ttx_page.specs.Pages.{Page}
use Rattle.ttx_page.specs.Views.{page_of}
use Rattle.ttx_rows.specs.RowReceptions.{may_be_lost}
use Rattle.ttx_row_monitor.proofs.muted_rows.all_may_lose.Given as goal

abbrev pub invariant-loop-i : goal.invariant-loop-i
invariant-loop-i l = (j : ℕ) (p : Page) → j < l.i → slice_get (map page_of l.pages) j ≡ Some p → may_be_lost p.id.mag (packet_of l.sent) ≡ true
