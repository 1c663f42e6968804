-- What a receiver of a page number that shows a page only where it ends shows through a change: an old page or a new one, whole (profile).
--
--   lists_of                the old pages are in force before the change, the new ones from it on
--   SendsNumber             a cycle sends the pages of a number whole, and another page number follows each
--   EndsWhole               what the old cycle leaves open is neither lacking nor filled by the new one
--   HasEnded                a block of the number that began at a slot or later has ended
--   TunesThrough            a receiver of the number, and a reception of its old and new pages
--   SeenThrough             what it shows
--   ChangesAreWhole         the law
use Rattle.std.specs.Prelude.{◌≡◌, ◌⊎◌, ℕ, ◌+◌, ℤ, pos, negsuc, ◌+ℤ◌, ◌<ℤ◌, ◌≤ℤ◌, true, List, length}
use Rattle.ttx_page.specs.Packets.{packet_of}
use Rattle.ttx_page.specs.Pages.{Page}
use Rattle.ttx_page.specs.declared.selection.Selection.TheVariants.{AnySub}
use Rattle.ttx_page.specs.Memories.{IsMemory}
use Rattle.ttx_page.specs.Streams.{Stream, repeated, heads_matched}
use Rattle.ttx_page.specs.Followers.{IsFollowedByAnother}
use Rattle.ttx_late.specs.LateReceivers.{LateMemory}
use Rattle.ttx_subpages.specs.EndedReceivers.{EndedRun}
use Rattle.ttx_subpages.specs.WholeBlocks.{IsSubpage, SendsWhole}
use Rattle.ttx_subpages.specs.SeenInTurn.{AreReceived, ShowsOne}
use Rattle.ttx_subpages.specs.Stays.{IsNextInMagazine}
use Rattle.ttx_proof.specs.Splices.{Splice, stream, NumbersAgree}
use Rattle.ttx_proof.specs.Laws.{IsSplice, BothAccepted}
use Rattle.ttx_proof.specs.LastBlocks.{NoneIsAmid, NoneHasSeam}
use Rattle.ttx_playout.specs.LateSchedules.{AllAreFollowedAcross}

abbrev pub lists_of : Splice → ℤ → List Page
lists_of c (pos i) = c.new_pages
lists_of c (negsuc i) = c.old_pages

pub record SendsNumber (cycle : List (List ℕ)) (pages : List Page) (lines mag number : ℕ) : Type 0 where
  pub whole : SendsWhole (repeated cycle) pages lines mag number
  pub followed : (p : Page) → IsSubpage pages mag number p → IsFollowedByAnother (repeated cycle) p.id

-- Of no old page an item comes only after the end of the old cycle, none would store a slot of the new one that differs from it, and the next
-- header of its magazine has another page number. Both cycles together have so many slots that this header comes in time if it comes at all.
pub record EndsWhole (c : Splice) : Type 0 where
  pub none_amid : NoneIsAmid c.old c.old_pages
  pub none_stored : NoneHasSeam c c.old_pages
  pub followed : AllAreFollowedAcross c.old c.new c.old_pages (length c.old + length c.new)

-- the header of the block stands at slot `from` or later, and the next header of its magazine before slot `now`
pub record HasEnded (s : Stream) (mag number : ℕ) (from now : ℤ) : Type 0 where
  pub header : ℤ
  pub not_before : from ≤ℤ header
  pub matched : heads_matched (AnySub mag number) (packet_of (s header)) ≡ true
  pub end : ℤ
  pub ends : IsNextInMagazine s mag header end
  pub before : end <ℤ now

-- whatever it gathered and showed before; all text of these pages is received right
pub record TunesThrough (c : Splice) (mag number : ℕ) (tau : ℤ) (former : LateMemory) (received : List (List ℕ)) (d : LateMemory) : Type 0 where
  pub memory : IsMemory former.gathered
  pub old : AreReceived (stream c) c.old_pages mag number tau received
  pub new : AreReceived (stream c) c.new_pages mag number tau received
  pub run : EndedRun c.new_certificate.class c.new_certificate.lines (AnySub mag number) former received d

pub record SeenThrough (c : Splice) (mag number : ℕ) : Type 0 where
  -- once a block that began after tuning has ended, what is shown is one of the old or of the new pages of the number, whole
  pub one : (tau : ℤ) (former d : LateMemory) (received : List (List ℕ)) → TunesThrough c mag number tau former received d →
      HasEnded (stream c) mag number tau (tau +ℤ pos (length received)) →
      ShowsOne c.old_pages mag number d ⊎ ShowsOne c.new_pages mag number d
  -- and once one that began after the change has ended, it is one of the new pages
  pub new : (tau begin : ℤ) (former d : LateMemory) (received : List (List ℕ)) → TunesThrough c mag number tau former received d →
      tau ≤ℤ begin → pos 0 ≤ℤ begin → HasEnded (stream c) mag number begin (tau +ℤ pos (length received)) → ShowsOne c.new_pages mag number d

abbrev pub ChangesAreWhole : Type 0
ChangesAreWhole = (c : Splice) → IsSplice c → BothAccepted c → NumbersAgree c.old_certificate c.new_certificate → EndsWhole c →
    (mag number : ℕ) → SendsNumber c.old c.old_pages c.old_certificate.lines mag number →
    SendsNumber c.new c.new_pages c.new_certificate.lines mag number → SeenThrough c mag number
