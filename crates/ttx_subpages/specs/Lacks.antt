-- What is found if the subpages of a number are not sent whole.
--
--   is_under, comes_in      a sure transmission under the header at a slot; whether an item comes so, by the transmissions of a period
--   IsUnwhole               an item does not come under a header of a page
--   IsUnlisted              a header of a number with several pages is of no page of the list
--   IsLack, IsLackAt        what a `Lack` says, and of the header in a slot
--   IsFirstLack             it is of the first such header in the cycle
use Rattle.std.specs.Prelude.{◌≡◌, ℕ, ◌<◌, ℤ, pos, ◌+ℤ◌, Bool, true, ◌&&◌, ◌||◌, List, length, slice_get, Some}
use Rattle.std.specs.List.{list_any}
use Rattle.std.specs.Ordering.{int_eq}
use Rattle.ttx_header.specs.Ids.{Id}
use Rattle.ttx_page.specs.Packets.{packet_of}
use Rattle.ttx_page.specs.Pages.{Page, needed}
use Rattle.ttx_page.specs.declared.item.Item.{Item}
use Rattle.ttx_page.specs.Streams.{Stream, repeated, heads_page}
use Rattle.ttx_witness.specs.declared.runs.transmissions.Transmission.{Transmission}
use Rattle.ttx_witness.specs.sent.Collected.{item_number}
use Rattle.ttx_witness.specs.sent.ItemTransmissions.{sent_in}
use Rattle.ttx_subpages.specs.Numbers.{HasSeveral, AllSendWholeAt}
use Rattle.ttx_subpages.specs.WholeBlocks.{ComesUnder}
use Rattle.ttx_subpages.specs.declared.lack.Lack.{Lack}
use Rattle.ttx_subpages.specs.declared.lack.Lack.TheVariants.{Unwhole, Unlisted}

-- of a header in the same period, or in the next one
abbrev pub is_under : ℤ → ℕ → Transmission → Bool
is_under at period t = t.sure && (int_eq t.owner at || int_eq (t.owner +ℤ pos period) at)

abbrev pub comes_in : List (List ℕ) → Page → ℕ → Item → ℤ → Bool
comes_in cycle p lines item at = list_any (is_under at (length cycle)) (sent_in cycle p.id lines item)

-- a viewer sees the item, it does not come under the header at slot h, and each such item before it does
pub record IsFirstMissing (s : Stream) (p : Page) (lines : ℕ) (h : ℤ) (item : Item) : Type 0 where
  pub seen : needed p item ≡ true
  pub none : ComesUnder s p lines item h → ⊥
  pub others : (other : Item) → item_number other < item_number item → needed p other ≡ true → ComesUnder s p lines other h

-- the page of a number with several has a header in the slot, under which not all of it comes
pub record IsUnwhole (cycle : List (List ℕ)) (pages : List Page) (lines : ℕ) (id : Id) (item : Item) (slot : ℕ) : Type 0 where
  pub index : ℕ
  pub page : Page
  pub listed : slice_get pages index ≡ Some page
  pub id_is : page.id ≡ id
  pub several : HasSeveral pages id.mag id.page
  pub inside : slot < length cycle
  pub header : heads_page id (packet_of (repeated cycle (pos slot))) ≡ true
  pub missing : IsFirstMissing (repeated cycle) page lines (pos slot) item

-- the header in the slot has the number of several pages, and is of none of them
pub record IsUnlisted (cycle : List (List ℕ)) (pages : List Page) (id : Id) (slot : ℕ) : Type 0 where
  pub several : HasSeveral pages id.mag id.page
  pub inside : slot < length cycle
  pub header : heads_page id (packet_of (repeated cycle (pos slot))) ≡ true
  pub none : (n : ℕ) (p : Page) → slice_get pages n ≡ Some p → p.id ≡ id → ⊥

abbrev pub IsLack : List (List ℕ) → List Page → ℕ → Lack → Type 0
IsLack cycle pages lines (Unwhole page item slot) = IsUnwhole cycle pages lines page item slot
IsLack cycle pages lines (Unlisted page slot) = IsUnlisted cycle pages page slot

abbrev pub slot_of : Lack → ℕ
slot_of (Unwhole page item slot) = slot
slot_of (Unlisted page slot) = slot

-- it is of the header in this slot
abbrev pub IsLackAt : List (List ℕ) → List Page → ℕ → ℕ → Lack → Type 0
IsLackAt cycle pages lines slot lack = (slot_of lack ≡ slot) × IsLack cycle pages lines lack

-- and each header before it has all
pub record IsFirstLack (cycle : List (List ℕ)) (pages : List Page) (lines : ℕ) (lack : Lack) : Type 0 where
  pub is : IsLack cycle pages lines lack
  pub none_before : (i : ℕ) → i < slot_of lack → AllSendWholeAt (repeated cycle) pages lines (pos i)
