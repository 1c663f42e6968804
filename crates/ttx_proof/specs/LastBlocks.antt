-- Pages that are not complete when the old cycle ends, or in which the new cycle would be stored (profile).
--
--   BringsAs, Brings        a slot carries an item that a viewer sees of a page
--   GoesOn                  such a slot stands before the first header of the page's magazine
--   IsAmid                  under a header in the last period such an item comes only after the end of the cycle
--   NoneIsAmid, IsFirstAmid so it is of no page of a list; the first page of which it is
--   TellsLeft               where the latest header of the page's magazine stands, if it is the page's
--   NoneHasSeam, IsFirstStored      no page of a list has a seam; the first that has one, and its first slot
use Rattle.std.specs.Prelude.{◌≡◌, ℕ, ◌<◌, ℤ, pos, negsuc, ◌-ℤ◌, ◌≤ℤ◌, true, List, length, slice_get, Option, Some, None}
use Rattle.ttx_header.specs.Ids.{Id}
use Rattle.ttx_page.specs.Packets.{packet_of}
use Rattle.ttx_page.specs.Pages.{Page, needed}
use Rattle.ttx_page.specs.declared.item.Item.{Item}
use Rattle.ttx_page.specs.Streams.{Stream, repeated, heads_page, carries, IsLatestHeader, IsOwned}
use Rattle.ttx_proof.specs.Seams.{IsLeftTo, StandsFirst}
use Rattle.ttx_proof.specs.Splices.{Splice, HasSeam}
use Rattle.ttx_proof.specs.Verdicts.{IsFirstSeam}

abbrev pub BringsAs : Page → List ℕ → Item → Type 0
BringsAs p slot item = (needed p item ≡ true) × (carries p.id.mag item (packet_of slot) ≡ true)

abbrev pub Brings : Page → List ℕ → Type 0
Brings p slot = (item : Item) × BringsAs p slot item

abbrev pub GoesOn : Stream → Page → ℤ → Type 0
GoesOn t p j = StandsFirst t p.id.mag (Brings p) j

-- The old cycle ends at slot 0. Under the page's header in this slot of its last period an item that a viewer sees comes at slot 0 or later.
pub record IsAmid (old : List (List ℕ)) (p : Page) (slot : ℕ) : Type 0 where
  pub inside : slot < length old
  pub item : Item
  pub needed : needed p item ≡ true
  pub next : ℤ
  pub not_before : pos 0 ≤ℤ next
  pub comes : IsOwned (repeated old) p.id item (pos slot -ℤ pos (length old)) next

abbrev pub NoneIsAmid : List (List ℕ) → List Page → Type 0
NoneIsAmid old pages = (n : ℕ) (p : Page) → slice_get pages n ≡ Some p → (slot : ℕ) → IsAmid old p slot → ⊥

-- the page with this id is amid the change, by its header in the slot, and no page before it in the list is
pub record IsFirstAmid (old : List (List ℕ)) (pages : List Page) (page : Id) (slot : ℕ) : Type 0 where
  pub index : ℕ
  pub first : Page
  pub listed : slice_get pages index ≡ Some first
  pub is : first.id ≡ page
  pub here : IsAmid old first slot
  pub none_before : (i : ℕ) (q : Page) → i < index → slice_get pages i ≡ Some q → (n : ℕ) → IsAmid old q n → ⊥

-- the number of slots from this header to the last one of the period
abbrev pub TellsLeft : List (List ℕ) → Id → Option ℕ → Type 0
TellsLeft old page None = IsLeftTo (repeated old) page → ⊥
TellsLeft old page (Some back) = (back < length old) × IsLatestHeader (repeated old) page.mag (negsuc back) (pos 0)
    × (heads_page page (packet_of (repeated old (negsuc back))) ≡ true)

-- no slot of the new cycle would be stored in one of the pages under its last header, and differ from it
abbrev pub NoneHasSeam : Splice → List Page → Type 0
NoneHasSeam c pages = (n : ℕ) (p : Page) → slice_get pages n ≡ Some p → HasSeam c p → ⊥

pub record IsFirstStored (c : Splice) (pages : List Page) (page : Id) (slot : ℕ) : Type 0 where
  pub index : ℕ
  pub first : Page
  pub listed : slice_get pages index ≡ Some first
  pub is : first.id ≡ page
  pub here : IsFirstSeam c first slot
  pub none_before : (i : ℕ) (q : Page) → i < index → slice_get pages i ≡ Some q → HasSeam c q → ⊥
