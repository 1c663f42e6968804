-- What receivers of a page number that show a page only where it ends show of a service on the air from its text: a page of one edition, whole (profile).
--
--   SendsThrough            each edition of a schedule sends the pages of a number whole
--   AiringsAreWhole      the law
use Rattle.std.specs.Prelude.{◌≡◌, ℕ, ℤ, pos, ◌+ℤ◌, ◌≤ℤ◌, List, [], ◌∷◌, length}
use Rattle.ttx_air.specs.declared.airtime.Receivers.TheVariants.{Late}
use Rattle.ttx_air.specs.Newsrooms.{Candidate}
use Rattle.ttx_air.specs.Endings.{playout_after}
use Rattle.ttx_air.specs.Airings.{Scene, Aired}
use Rattle.ttx_change.specs.OldOrNew.{SendsNumber, HasEnded}
use Rattle.ttx_change.specs.Scheduled.{lists_through}
use Rattle.ttx_late.specs.LateReceivers.{LateMemory}
use Rattle.ttx_air.specs.TextNewsrooms.{Reading}
use Rattle.ttx_air.specs.declared.text_newsroom.TextNewsroom.{TextNewsroom}
use Rattle.ttx_page.specs.declared.class.Class.{Class}
use Rattle.ttx_playout.specs.Schedules.{Edition, Showing, sent}
use Rattle.ttx_press.specs.declared.house.House.{House}
use Rattle.ttx_send.specs.Airing.{Times}
use Rattle.ttx_subpages.specs.ListsInForce.{TunesToLists, ShowsListed}
use Rattle.ttx_press.specs.Presses.{text_gives}

abbrev pub SendsThrough : ℕ → ℕ → Edition → List Showing → Type 0
SendsThrough mag number first [] = SendsNumber first.cycle first.pages first.certificate.lines mag number
SendsThrough mag number first (t ∷ later) =
    SendsNumber first.cycle first.pages first.certificate.lines mag number × SendsThrough mag number t.edition later

-- Of what an airing for late receivers leaves behind: once a block of the number that began at slot `from` or later has ended, what is shown is
-- the page of a header that was sent from that slot on, as the edition of this header has it.
abbrev pub AiringsAreWhole : {S : Type 0} → (S → Reading → S → Type 0) → Type 0
AiringsAreWhole {S} reads =
    (gap : ℕ) (times : Times) (first : Candidate) (before after : Scene (TextNewsroom S House)) (last : List ℕ) →
    before.newsroom.press.receivers ≡ Late gap → (a : Aired (text_gives reads) (Late gap) times first before after last) →
    let later = (playout_after first.edition a.past).later in
    let stream = sent first.edition later in
    (mag number : ℕ) → SendsThrough mag number first.edition later →
    (class : Class) (tau from : ℤ) (former d : LateMemory) (received : List (List ℕ)) →
    TunesToLists stream (lists_through first.edition later) class first.edition.certificate.lines mag number tau former received d → tau ≤ℤ from →
    HasEnded stream mag number from (tau +ℤ pos (length received)) →
    ShowsListed stream (lists_through first.edition later) mag number from (tau +ℤ pos (length received)) d
