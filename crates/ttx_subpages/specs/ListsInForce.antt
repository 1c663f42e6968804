-- Subpages of a number whose pages change: a list of pages is in force at each slot, and each header is of a page of the list at its slot
-- (profile).
--
--   Lists                   the list in force at each slot
--   SendsListed             what a stream has to send so that these pages are shown whole: as `SendsInTurn`, of the list at each header
--   AreListedReceived, TunesToLists         what is received of them; a receiver of the number, with that
--   ShowsListed             what is shown is the page of a header between two slots
use Rattle.std.specs.Prelude.{◌≡◌, ℕ, ℤ, ◌<ℤ◌, ◌≤ℤ◌, true, List}
use Rattle.ttx_packet.specs.Slots.{IsSlot, is_clean}
use Rattle.ttx_page.specs.Packets.{packet_of}
use Rattle.ttx_page.specs.Pages.{Page, IsPage}
use Rattle.ttx_page.specs.declared.selection.Selection.TheVariants.{AnySub}
use Rattle.ttx_page.specs.declared.item.Item.{Item}
use Rattle.ttx_page.specs.declared.class.Class.{Class}
use Rattle.ttx_page.specs.Memories.{IsMemory}
use Rattle.ttx_page.specs.Streams.{Stream, heads_page, heads_matched, IsOwned}
use Rattle.ttx_page.specs.Receptions.{Received}
use Rattle.ttx_page.specs.Steady.{IsChecked, IsTrueTo}
use Rattle.ttx_page.specs.Followers.{IsFollowed}
use Rattle.ttx_certify.specs.Seen.{HasView}
use Rattle.ttx_late.specs.LateReceivers.{LateMemory}
use Rattle.ttx_subpages.specs.EndedReceivers.{EndedRun}
use Rattle.ttx_subpages.specs.WholeBlocks.{IsSubpage, IsWhole}

abbrev pub Lists : Type 0
Lists = ℤ → List Page

-- Clean slots; each header of the number is a page's of the list at its slot; what comes under it is the page's own, all that a viewer
-- sees of the page comes, and the next header of the magazine has another number.
pub record SendsListed (s : Stream) (lists : Lists) (lines mag number : ℕ) : Type 0 where
  pub slots : (j : ℤ) → IsSlot (s j)
  pub clean : (j : ℤ) → is_clean (s j) ≡ true
  pub are_pages : (h : ℤ) (p : Page) → IsSubpage (lists h) mag number p → IsPage p
  pub own : (h : ℤ) → heads_matched (AnySub mag number) (packet_of (s h)) ≡ true →
      (p : Page) × IsSubpage (lists h) mag number p × (heads_page p.id (packet_of (s h)) ≡ true)
  pub items : (h : ℤ) (p : Page) → IsSubpage (lists h) mag number p → (item : Item) → IsChecked p item → (j : ℤ) → IsOwned s p.id item h j →
      IsTrueTo p item (s j)
  pub whole : (h : ℤ) (p : Page) → IsSubpage (lists h) mag number p → heads_page p.id (packet_of (s h)) ≡ true → IsWhole s p lines h
  pub followed : (h : ℤ) (p : Page) → IsSubpage (lists h) mag number p → heads_page p.id (packet_of (s h)) ≡ true → IsFollowed s p.id h

-- the error rule with a repeat count of 1, for each page that is in force at some slot
abbrev pub AreListedReceived : Stream → Lists → ℕ → ℕ → ℤ → List (List ℕ) → Type 0
AreListedReceived s lists mag number tau received = (h : ℤ) (p : Page) → IsSubpage (lists h) mag number p → Received s p.id 1 tau received

pub record TunesToLists (s : Stream) (lists : Lists) (class : Class) (lines mag number : ℕ) (tau : ℤ) (former : LateMemory)
    (received : List (List ℕ)) (d : LateMemory) : Type 0 where
  pub memory : IsMemory former.gathered
  pub permitted : AreListedReceived s lists mag number tau received
  pub run : EndedRun class lines (AnySub mag number) former received d

-- the page of a header at slot `from` or later, before slot `now`
pub record ShowsListed (s : Stream) (lists : Lists) (mag number : ℕ) (from now : ℤ) (d : LateMemory) : Type 0 where
  pub place : ℤ
  pub not_before : from ≤ℤ place
  pub before : place <ℤ now
  pub page : Page
  pub subpage : IsSubpage (lists place) mag number page
  pub header : heads_page page.id (packet_of (s place)) ≡ true
  pub view : HasView page d.shown
