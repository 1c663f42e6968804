-- How long a subpage stays, for receivers that show a page where it ends, and how long a viewer waits for it (profile).
--
--   IsNextInMagazine        the next header of a magazine after a slot, at which the block ends
--   MayEndNext, StaysAfter  a slot at which a later block of the number may end; from the end of a block there are so many slots to it
--   StaysFor, IsLeastStay   so it is of each block that is looked at; and of no more slots
--   IsStayAfter, IsStayOfOne, StayBelow, lesser_of  the same for one header, and of those in the first slots of a cycle
--   ComesAgainWithin, IsGreatestInterval    after each such header another comes within so many slots; and in no fewer
--   IntervalBelow           the same for the headers in the first slots of a cycle
--   ShowsFor                a receiver set to the number shows the page for so many slots from the end of each block of it
use Rattle.std.specs.Prelude.{List, length, ◌≡◌, ◌⊎◌, ℕ, ◌<◌, ◌≤◌, ℤ, pos, ◌+ℤ◌, ◌<ℤ◌, ◌≤ℤ◌, true, false, if◌then◌else◌, nat_lt, Option, Some, None}
use Rattle.ttx_page.specs.Packets.{packet_of}
use Rattle.ttx_page.specs.Pages.{Page, selected_mag}
use Rattle.ttx_page.specs.declared.class.Class.{Class}
use Rattle.ttx_page.specs.Followers.{IsFollowed}
use Rattle.ttx_page.specs.declared.selection.Selection.{Selection}
use Rattle.ttx_page.specs.Streams.{Stream, heads, heads_page, heads_matched, IsLatestHeader}
use Rattle.ttx_certify.specs.Seen.{HasView}
use Rattle.ttx_late.specs.LateReceivers.{LateMemory, heads_number}
use Rattle.ttx_subpages.specs.SeenInTurn.{Tunes, MayEnd}

abbrev pub HeadsAt : Stream → Selection → ℤ → Type 0
HeadsAt s sel h = heads_matched sel (packet_of (s h)) ≡ true

abbrev pub HasNone : Stream → Selection → Type 0
HasNone s sel = (h : ℤ) → heads_matched sel (packet_of (s h)) ≡ false

abbrev pub IsNextInMagazine : Stream → ℕ → ℤ → ℤ → Type 0
IsNextInMagazine s mag h end = IsLatestHeader s mag h end × (heads mag (packet_of (s end)) ≡ true)

-- a block of the number that begins after slot h may end at slot z
pub record MayEndNext (s : Stream) (sel : Selection) (h z : ℤ) : Type 0 where
  pub begin : ℤ
  pub later : h <ℤ begin
  pub is_number : heads_number sel (packet_of (s begin)) ≡ true
  pub after : begin <ℤ z
  pub ends : MayEnd (selected_mag sel) (packet_of (s z))

-- the block under the header in slot h ends n slots or more before each later block of the number may end
abbrev pub StaysAfter : Stream → Selection → ℤ → ℕ → Type 0
StaysAfter s sel h n = (end z : ℤ) → IsNextInMagazine s (selected_mag sel) h end → MayEndNext s sel h z → (end +ℤ pos n) ≤ℤ z

-- so it is of each header that the selection matches
abbrev pub StaysFor : Stream → Selection → ℕ → Type 0
StaysFor s sel n = (h : ℤ) → HeadsAt s sel h → StaysAfter s sel h n

-- and a later one may end just n slots after it has ended
pub record IsStayAfter (s : Stream) (sel : Selection) (h : ℤ) (n : ℕ) : Type 0 where
  pub each : StaysAfter s sel h n
  pub end : ℤ
  pub ends : IsNextInMagazine s (selected_mag sel) h end
  pub next : ℤ
  pub ends_next : MayEndNext s sel h next
  pub apart : next ≡ end +ℤ pos n

pub record IsStayOfOne (s : Stream) (sel : Selection) (at n : ℕ) : Type 0 where
  pub each : (i : ℕ) → i < at → HeadsAt s sel (pos i) → StaysAfter s sel (pos i) n
  pub slot : ℕ
  pub before : slot < at
  pub header : HeadsAt s sel (pos slot)
  pub stay : IsStayAfter s sel (pos slot) n

abbrev pub StayBelow : Stream → Selection → ℕ → Option ℕ → Type 0
StayBelow s sel at None = (i : ℕ) → i < at → heads_matched sel (packet_of (s (pos i))) ≡ false
StayBelow s sel at (Some n) = IsStayOfOne s sel at n

abbrev pub lesser_of : Option ℕ → ℕ → ℕ
lesser_of None n = n
lesser_of (Some m) n = if nat_lt m n then m else n

pub record IsLeastStay (s : Stream) (sel : Selection) (n : ℕ) : Type 0 where
  pub each : StaysFor s sel n
  pub most : (m : ℕ) → StaysFor s sel m → m ≤ n

-- after each header that the selection matches another one comes, at most n slots later
abbrev pub ComesAgainWithin : Stream → Selection → ℕ → Type 0
ComesAgainWithin s sel n = (h : ℤ) → HeadsAt s sel h → (j : ℤ) × (h <ℤ j) × (j ≤ℤ (h +ℤ pos n)) × HeadsAt s sel j

pub record IsGreatestInterval (s : Stream) (sel : Selection) (n : ℕ) : Type 0 where
  pub within : ComesAgainWithin s sel n
  pub least : (m : ℕ) → ComesAgainWithin s sel m → n ≤ m

pub record IntervalBelow (s : Stream) (sel : Selection) (at most : ℕ) : Type 0 where
  pub within : (i : ℕ) → i < at → HeadsAt s sel (pos i) → (j : ℤ) × (pos i <ℤ j) × (j ≤ℤ (pos i +ℤ pos most)) × HeadsAt s sel j
  pub needed : (most ≡ 0) ⊎ ((i : ℕ) × HeadsAt s sel (pos i)
      × ((j : ℤ) → pos i <ℤ j → j <ℤ (pos i +ℤ pos most) → heads_matched sel (packet_of (s j)) ≡ false))

-- after each of the n slots from the one that ends a block of the page on
abbrev pub ShowsFor : Stream → List Page → Class → ℕ → ℕ → ℕ → Page → ℕ → Type 0
ShowsFor s pages class lines mag number p n =
    (tau : ℤ) (former d : LateMemory) (received : List (List ℕ)) → Tunes s pages class lines mag number tau former received d →
    (h : ℤ) → tau ≤ℤ h → heads_page p.id (packet_of (s h)) ≡ true → (f : IsFollowed s p.id h) →
    f.slot <ℤ (tau +ℤ pos (length received)) → (tau +ℤ pos (length received)) ≤ℤ (f.slot +ℤ pos n) → HasView p d.shown
