-- What it means that a page of a cycle is seen on receivers that show it late (profile).
--
--   SeenLate                each such receiver shows the page's View from `gap` slots after the deadline on
use Rattle.std.specs.Prelude.{ℕ, ◌+◌, ◌≤◌, ℤ, List, length}
use Rattle.ttx_page.specs.Pages.{Page, Fits}
use Rattle.ttx_page.specs.declared.selection.Selection.{Selection}
use Rattle.ttx_page.specs.Memories.{IsFormer}
use Rattle.ttx_page.specs.Streams.{repeated}
use Rattle.ttx_page.specs.Receptions.{Received}
use Rattle.ttx_witness.specs.Coverage.{Certificate, limit}
use Rattle.ttx_certify.specs.Seen.{HasView}
use Rattle.ttx_late.specs.LateReceivers.{LateMemory, LateRun}

-- For each selection that fits the page, each tuning slot, whatever was gathered and shown before, each reception within the error rule
-- that lasts until `gap` slots after the deadline, and each run: what the receiver shows has the page's View.
pub record SeenLate (cycle : List (List ℕ)) (pages : List Page) (p : Page) (w : Certificate) (gap : ℕ) : Type 0 where
  pub shown : (sel : Selection) → Fits pages p sel → (tau : ℤ) (former d : LateMemory) (received : List (List ℕ)) → IsFormer w.class former.gathered →
      Received (repeated cycle) p.id w.repeat tau received → limit w + gap ≤ length received → LateRun w.class w.lines sel former received d →
      HasView p d.shown
