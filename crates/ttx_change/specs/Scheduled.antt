-- What a receiver of a page number that shows a page only where it ends shows through all changes of a schedule: a page of one edition,
-- whole (profile).
--
--   lists_through           the pages of the edition that is on the air, at each slot
--   HandsOverWhole          each edition sends the pages of a number whole, and no change leaves anything of them open
--   SchedulesAreWhole       the law
use Rattle.std.specs.Prelude.{ℕ, ℤ, pos, negsuc, ◌+ℤ◌, ◌-ℤ◌, ◌≤ℤ◌, List, [], ◌∷◌, length}
use Rattle.ttx_page.specs.declared.class.Class.{Class}
use Rattle.ttx_late.specs.LateReceivers.{LateMemory}
use Rattle.ttx_playout.specs.Schedules.{Edition, Showing, span, sent, change, AreEditions, IsHandedOn}
use Rattle.ttx_subpages.specs.ListsInForce.{Lists, TunesToLists, ShowsListed}
use Rattle.ttx_change.specs.OldOrNew.{SendsNumber, EndsWhole, HasEnded}

abbrev pub lists_through : Edition → List Showing → Lists
lists_through first [] i = first.pages
lists_through first (t ∷ later) (pos i) = lists_through t.edition later (pos i -ℤ pos (span t))
lists_through first (t ∷ later) (negsuc i) = first.pages

abbrev pub HandsOverWhole : ℕ → ℕ → Edition → List Showing → Type 0
HandsOverWhole mag number first [] = SendsNumber first.cycle first.pages first.certificate.lines mag number
HandsOverWhole mag number first (t ∷ later) =
    SendsNumber first.cycle first.pages first.certificate.lines mag number × EndsWhole (change first t.edition)
    × HandsOverWhole mag number t.edition later

-- Once a block of the number that began at slot `from` or later has ended, what is shown is the page of a header that was sent from that slot
-- on, as the edition of this header has it. Whatever was gathered and shown before tuning, and however the pages change.
abbrev pub SchedulesAreWhole : Type 0
SchedulesAreWhole =
    (first : Edition) (later : List Showing) → AreEditions first later → IsHandedOn first later →
    (mag number : ℕ) → HandsOverWhole mag number first later →
    (class : Class) (tau from : ℤ) (former d : LateMemory) (received : List (List ℕ)) →
    TunesToLists (sent first later) (lists_through first later) class first.certificate.lines mag number tau former received d → tau ≤ℤ from →
    HasEnded (sent first later) mag number from (tau +ℤ pos (length received)) →
    ShowsListed (sent first later) (lists_through first later) mag number from (tau +ℤ pos (length received)) d
