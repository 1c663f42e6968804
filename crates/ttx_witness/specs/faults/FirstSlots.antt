-- The first slots of a page that differ from it. They are kept while the page's transmissions are taken one by one, in any
-- order. Headers of other subpages are no transmissions of the page: the first one is found by itself.
--
--   earlier, noted, IsNoted the earlier of two slots; the first slot so far where a property holds, after one more slot
--   RowWrong                a slot sends something else for a row that a viewer sees
--   IsAfter                 the first slots after slot j; `sends` says which items the slot sends
--   none_yet                the first slots before any is taken
--   IsLeastOf               the first slot where a property holds, or None if there is none
--   TakesWrong, TakesWrongRow       slot j is taken as a transmission of an item, and differs from the page
--   AreFirstTaken           the first slots of those that are taken; `Taken item j` says that slot j is, as a transmission of the item
--   SentBelow               a slot below n sends an item, with the owners of a scan from the entry
--   TakenBelow              a slot of the period sends an item whose number is below a number
use Rattle.std.specs.Prelude.{◌≡◌, ◌↔◌, ◌||◌, ℕ, ◌<◌, pos, Bool, true, false, IsTrue, if◌then◌else◌, nat_le, List, length, Option, Some, None}
use Rattle.ttx_header.specs.Ids.{Id}
use Rattle.ttx_page.specs.Packets.{packet_of}
use Rattle.ttx_page.specs.Pages.{Page, needed}
use Rattle.ttx_page.specs.Streams.{Stream, repeated, IsTransmission}
use Rattle.ttx_page.specs.declared.item.Item.{Item}
use Rattle.ttx_page.specs.declared.item.Item.TheVariants.{Head as TheHead, Row as TheRow, Links as TheLinks}
use Rattle.ttx_witness.specs.faults.Comparing.{is_mine, compared_item, sends, IsWrong}
use Rattle.ttx_witness.specs.sent.Collected.{item_number}
use Rattle.ttx_witness.specs.sent.ItemTransmissions.{PageOwner, owner_scan}
use Rattle.ttx_witness.specs.declared.faults.wrong_slots.Check.{Check}
use Rattle.ttx_witness.specs.declared.faults.wrong_slots.Check.TheVariants.{EraseBit, Head as CheckHead, Row as CheckRow, Links as CheckLinks}
use Rattle.ttx_witness.specs.declared.faults.first_slots.FirstSlots.{FirstSlots}

-- the earlier of two slots; None stands for no slot
abbrev pub earlier : Option ℕ → ℕ → ℕ
earlier None j = j
earlier (Some i) j = if nat_le i j then i else j

abbrev pub noted : Option ℕ → Bool → ℕ → Option ℕ
noted first is j = if is then Some (earlier first j) else first

-- slot j is noted if P holds and no earlier slot is
pub record IsNoted (P : Type 0) (j : ℕ) (old new : Option ℕ) : Type 0 where
  pub holds : Bool
  pub exact : (holds ≡ true) ↔ P
  pub first : new ≡ noted old holds j

pub record RowWrong (p : Page) (sends : Item → Bool) (slot : List ℕ) : Type 0 where
  pub row : ℕ
  pub needed : needed p (TheRow row) ≡ true
  pub sent : sends (TheRow row) ≡ true
  pub wrong : IsWrong p (CheckRow row) slot

pub record IsAfter (p : Page) (sends : Item → Bool) (slot : List ℕ) (j : ℕ) (old new : FirstSlots) : Type 0 where
  pub has_header : new.has_header ≡ (old.has_header || sends TheHead)
  pub erased : IsNoted ((sends TheHead ≡ true) × IsWrong p EraseBit slot) j old.erased new.erased
  pub head : IsNoted ((sends TheHead ≡ true) × IsWrong p CheckHead slot) j old.head new.head
  pub row : IsNoted (RowWrong p sends slot) j old.row new.row
  pub links : IsNoted ((sends TheLinks ≡ true) × IsWrong p CheckLinks slot) j old.links new.links

abbrev pub none_yet : FirstSlots
none_yet = record { has_header = false; other_subpage = None; erased = None; head = None; row = None; links = None }

abbrev pub IsLeastOf : (ℕ → Type 0) → Option ℕ → Type 0
IsLeastOf P None = (j : ℕ) → P j → ⊥
IsLeastOf P (Some j) = P j × ((i : ℕ) → i < j → P i → ⊥)

pub record TakesWrong (p : Page) (s : Stream) (Taken : Item → ℕ → Type 0) (check : Check) (j : ℕ) : Type 0 where
  pub taken : Taken (compared_item check) j
  pub wrong : IsWrong p check (s (pos j))

pub record TakesWrongRow (p : Page) (s : Stream) (Taken : Item → ℕ → Type 0) (j : ℕ) : Type 0 where
  pub row : ℕ
  pub needed : needed p (TheRow row) ≡ true
  pub wrong : TakesWrong p s Taken (CheckRow row) j

pub record AreFirstTaken (p : Page) (s : Stream) (Taken : Item → ℕ → Type 0) (f : FirstSlots) : Type 0 where
  pub has_header : IsTrue f.has_header ↔ ((j : ℕ) × Taken TheHead j)
  pub erased : IsLeastOf (TakesWrong p s Taken EraseBit) f.erased
  pub head : IsLeastOf (TakesWrong p s Taken CheckHead) f.head
  pub row : IsLeastOf (TakesWrongRow p s Taken) f.row
  pub links : IsLeastOf (TakesWrong p s Taken CheckLinks) f.links

abbrev pub SentBelow : Id → Stream → Option PageOwner → ℕ → Item → ℕ → Type 0
SentBelow page s entry n item j = (j < n) × (sends page item (packet_of (s (pos j))) (is_mine (owner_scan page s entry j)) ≡ true)

abbrev pub TakenBelow : List (List ℕ) → Id → ℕ → Item → ℕ → Type 0
TakenBelow cycle page number item j = (item_number item < number) × (j < length cycle) × IsTransmission (repeated cycle) page item (pos j)
