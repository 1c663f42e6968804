-- Subpages that are sent whole: under each header of a subpage comes all that a viewer sees of it (profile).
--
--   IsSubpage               a page of a list with this page number
--   ComesUnder              an item comes under a header, and no receiver may miss it
--   IsWhole, IsWholeBefore  so comes each item that a viewer sees; and before a slot
--   SendsWholeAt, SendsWhole        each header of a number is a listed subpage's, and the block under it is whole
--   SendsUnchanged, SendsInTurn     what a stream has to send so that its subpages are shown in turn
use Rattle.std.specs.Prelude.{◌≡◌, ℕ, ℤ, ◌<ℤ◌, true, List, slice_get, Some}
use Rattle.ttx_packet.specs.Slots.{IsSlot, is_clean}
use Rattle.ttx_page.specs.Packets.{packet_of}
use Rattle.ttx_page.specs.Pages.{Page, IsPage, needed}
use Rattle.ttx_page.specs.declared.selection.Selection.TheVariants.{AnySub}
use Rattle.ttx_page.specs.declared.item.Item.{Item}
use Rattle.ttx_page.specs.Streams.{Stream, heads_page, heads_matched, IsOwned, IsSure}
use Rattle.ttx_page.specs.Steady.{IsChecked, IsTrueTo}
use Rattle.ttx_page.specs.Followers.{IsFollowedWithin}

pub record IsSubpage (pages : List Page) (mag number : ℕ) (p : Page) : Type 0 where
  pub index : ℕ
  pub listed : slice_get pages index ≡ Some p
  pub mag_is : p.id.mag ≡ mag
  pub number_is : p.id.page ≡ number

-- the item comes under the header at slot h, and no receiver may miss it
pub record ComesUnder (s : Stream) (p : Page) (lines : ℕ) (item : Item) (h : ℤ) : Type 0 where
  pub slot : ℤ
  pub owned : IsOwned s p.id item h slot
  pub sure : IsSure s lines p.id.mag item h slot

-- the block under the header at slot h brings each item that a viewer sees
abbrev pub IsWhole : Stream → Page → ℕ → ℤ → Type 0
IsWhole s p lines h = (item : Item) → needed p item ≡ true → ComesUnder s p lines item h

-- and all of them below slot end
abbrev pub IsWholeBefore : Stream → Page → ℕ → ℤ → ℤ → Type 0
IsWholeBefore s p lines h end = (item : Item) → needed p item ≡ true → (c : ComesUnder s p lines item h) × (c.slot <ℤ end)

-- the header in slot h, if it has the number, is a listed subpage's, and its block is whole
pub record SendsWholeAt (s : Stream) (pages : List Page) (lines mag number : ℕ) (h : ℤ) : Type 0 where
  pub own : heads_matched (AnySub mag number) (packet_of (s h)) ≡ true → (p : Page) × IsSubpage pages mag number p × (heads_page p.id (packet_of (s h)) ≡ true)
  pub whole : (p : Page) → IsSubpage pages mag number p → heads_page p.id (packet_of (s h)) ≡ true → IsWhole s p lines h

abbrev pub SendsWhole : Stream → List Page → ℕ → ℕ → ℕ → Type 0
SendsWhole s pages lines mag number = (h : ℤ) → SendsWholeAt s pages lines mag number h

-- clean slots, and the subpages of a number are sent unchanged
pub record SendsUnchanged (s : Stream) (pages : List Page) (mag number : ℕ) : Type 0 where
  pub slots : (j : ℤ) → IsSlot (s j)
  pub clean : (j : ℤ) → is_clean (s j) ≡ true
  pub are_pages : (p : Page) → IsSubpage pages mag number p → IsPage p
  pub items : (p : Page) → IsSubpage pages mag number p → (item : Item) → IsChecked p item → (h j : ℤ) → IsOwned s p.id item h j → IsTrueTo p item (s j)

-- and each block of theirs is whole, and followed by another page number within so many slots
pub record SendsInTurn (s : Stream) (pages : List Page) (lines gap mag number : ℕ) : Type 0 where
  pub unchanged : SendsUnchanged s pages mag number
  pub followed : (p : Page) → IsSubpage pages mag number p → IsFollowedWithin s p.id gap
  pub sends : SendsWhole s pages lines mag number
