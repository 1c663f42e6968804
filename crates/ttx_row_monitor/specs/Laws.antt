-- The laws of row monitors. Each is proved by the function of its name in `laws`.
--
--   AllReceivedByRows       a feed is a reception by rows, for each page and for receivers of both manners
--   WithinIsReceivedByRows  so is a feed within the rule
--   IsSeenByRowsIn          each such receiver of a feed has each page's View, except perhaps row 0
--   WithinIsSeenByRows      an accepted cycle that is received within the rule up to the deadline is seen
--   IsShownByRowsIn         the same for receivers that show pages late, of a page that another page number follows
--   WithinIsShownByRows     an accepted cycle that is received within the rule is shown by them
use Rattle.std.specs.Prelude.{◌≡◌, ℕ, ◌+◌, ◌≤◌, pos, Bool, List, length, slice_get, Some}
use Rattle.ttx_page.specs.Pages.{Page, Fits}
use Rattle.ttx_page.specs.declared.selection.Selection.{Selection}
use Rattle.ttx_page.specs.Memories.{Memory, IsFormer}
use Rattle.ttx_page.specs.Streams.{repeated}
use Rattle.ttx_page.specs.Followers.{IsFollowedWithin}
use Rattle.ttx_cycle.specs.Files.{IsCycle}
use Rattle.ttx_witness.specs.Coverage.{Certificate, IsCertificate, Accepts, limit}
use Rattle.ttx_certify.specs.Seen.{HasView}
use Rattle.ttx_certify.specs.Laws.{ArePages}
use Rattle.ttx_late.specs.LateReceivers.{LateMemory}
use Rattle.ttx_rows.specs.RowReceptions.{ReceivedByRows, HeadsArrive, LateHeadsArrive}
use Rattle.ttx_rows.specs.RowReceivers.{spoils_heads, RowRun, RowLateRun}
use Rattle.ttx_rows.specs.SeenByRows.{HasViewBelowHead}
use Rattle.ttx_monitor.specs.Watching.{Watched}
use Rattle.ttx_row_monitor.specs.RowFeeds.{refusing, IsWithinByRows}

abbrev pub AllReceivedByRows : Watched → List (List ℕ) → Type 0
AllReceivedByRows w feed =
    (spaces : Bool) (i : ℕ) (p : Page) → slice_get w.pages i ≡ Some p →
    ReceivedByRows (refusing spaces) (repeated w.cycle) p w.repeat (pos w.start) feed

abbrev pub WithinIsReceivedByRows : Type 0
WithinIsReceivedByRows = (w : Watched) (feed : List (List ℕ)) → IsWithinByRows w feed → AllReceivedByRows w feed

-- for each selection that fits a page, each former memory, and each run of a receiver that refuses rows over this feed
abbrev pub IsSeenByRowsIn : Watched → List (List ℕ) → Certificate → Type 0
IsSeenByRowsIn w feed c =
    (i : ℕ) (p : Page) → slice_get w.pages i ≡ Some p → (spaces : Bool) (sel : Selection) → Fits w.pages p sel → (former m : Memory) →
    IsFormer c.class former → RowRun (refusing spaces) c.class c.lines sel former feed m →
    HasViewBelowHead p m × (HeadsArrive (spoils_heads (refusing spaces)) (repeated w.cycle) p.id w.repeat (pos w.start) feed → HasView p m)

abbrev pub WithinIsSeenByRows : Type 0
WithinIsSeenByRows =
    (w : Watched) (feed : List (List ℕ)) (c : Certificate) → IsCycle w.cycle → ArePages w.pages → IsCertificate c → c.repeat ≡ w.repeat →
    Accepts w.cycle w.pages c → IsWithinByRows w feed → limit c ≤ length feed → IsSeenByRowsIn w feed c

-- for each distance within which another page number follows a page: the same for each run of a receiver that shows pages late, where the feed
-- reaches so many slots past the deadline
abbrev pub IsShownByRowsIn : Watched → List (List ℕ) → Certificate → Type 0
IsShownByRowsIn w feed c =
    (i : ℕ) (p : Page) → slice_get w.pages i ≡ Some p → (gap : ℕ) → IsFollowedWithin (repeated w.cycle) p.id gap → limit c + gap ≤ length feed →
    (spaces : Bool) (sel : Selection) → Fits w.pages p sel → (former d : LateMemory) → IsFormer c.class former.gathered →
    RowLateRun (refusing spaces) c.class c.lines sel former feed d →
    HasViewBelowHead p d.shown
    × (LateHeadsArrive (spoils_heads (refusing spaces)) (repeated w.cycle) p.id w.repeat (pos w.start) feed → HasView p d.shown)

abbrev pub WithinIsShownByRows : Type 0
WithinIsShownByRows =
    (w : Watched) (feed : List (List ℕ)) (c : Certificate) → IsCycle w.cycle → ArePages w.pages → IsCertificate c → c.repeat ≡ w.repeat →
    Accepts w.cycle w.pages c → IsWithinByRows w feed → IsShownByRowsIn w feed c
