-- The owners of the eight magazines, and the transmissions of all items of all pages, while the slots of a period are read.
--
--   taint, seen_by          an owner after a header of another magazine; an owner as one of the pages sees it
--   Finds                   the answer of a look-up is the index of an id among the ids of pages
--   AreOwners               the owners are right for each page
--   IsItem, place_of_item   the items of a page, and the place where the transmissions of an item of a page are kept
--   held, AreCollected      the list at a place; the lists are the transmissions of all items in the first slots of a period
use Rattle.std.specs.Prelude.{◌≡◌, ℕ, ◌+◌, ◌-◌, ◌*◌, ◌<◌, Bool, false, ◌||◌, ◌==◌, List, [], slice_get, get_or, map, length, nat_eq}
use Rattle.std.specs.Prelude.{Option, Some, None}
use Rattle.smallvec.specs.SmallVec.{SmallVec}
use Rattle.ttx_header.specs.Ids.{Id, IsId, same_id}
use Rattle.ttx_page.specs.Streams.{repeated}
use Rattle.ttx_page.specs.declared.item.Item.{Item}
pub use Rattle.ttx_certificate.specs.ItemPlaces.{IsItem, item_number, key_of}
use Rattle.ttx_witness.specs.runs.Transmissions.{Transmission}
use Rattle.ttx_witness.specs.sent.ItemTransmissions.{PageOwner, owner_scan, sent_scan, entry_owner}
use Rattle.std.specs.HashMap.{get}
use Rattle.ttx_witness.specs.declared.sent.owners.Owner.{Owner}
use Rattle.ttx_witness.specs.declared.sent.page_index.PageIndex.{PageIndex}

abbrev pub taint : Bool → Option Owner → Option Owner
taint ends None = None
taint ends (Some o) = Some (record { slot = o.slot; page = o.page; tainted = o.tainted || ends })

abbrev pub is_page : ℕ → Option ℕ → Bool
is_page i None = false
is_page i (Some j) = j == i

-- the owner, as the i-th page sees it
abbrev pub seen_by : ℕ → Option Owner → Option PageOwner
seen_by i None = None
seen_by i (Some o) = Some (record { slot = o.slot; mine = is_page i o.page; tainted = o.tainted })

-- the answer for an id is the index of the page that has it
abbrev pub Finds : List Id → Id → Option ℕ → Type 0
Finds ids id answer = (i : ℕ) (own : Id) → slice_get ids i ≡ Some own → is_page i answer ≡ same_id own id

-- the owner of the i-th page's magazine, as this page sees it
abbrev pub owner_for : List (Option Owner) → ℕ → Id → Option PageOwner
owner_for owners i id = seen_by i (get_or owners (id.mag - 1) None)

-- after j slots of the period of a cycle that follows another one
abbrev pub AreOwners : List Id → List (List ℕ) → List (List ℕ) → ℕ → List (Option Owner) → Type 0
AreOwners ids before cycle j owners = (i : ℕ) (id : Id) → slice_get ids i ≡ Some id → IsId id →
    owner_for owners i id ≡ owner_scan id (repeated cycle) (entry_owner before id) j

-- a page owns no magazine other than its own
abbrev pub IsForeign : ℕ → Option Owner → Type 0
IsForeign i None = Unit {0}
IsForeign i (Some o) = is_page i o.page ≡ false

abbrev pub AreApart : List Id → List (Option Owner) → Type 0
AreApart ids owners = (m i : ℕ) (id : Id) → m < 8 → slice_get ids i ≡ Some id → (m + 1 ≡ id.mag → ⊥) → IsForeign i (get_or owners m None)

abbrev pub place_of_item : ℕ → Item → ℕ
place_of_item i item = 26 * i + item_number item

-- the list at a place
abbrev pub held : List (SmallVec Transmission) → ℕ → List Transmission
held lists n = get_or (map (λ v. v.items) lists) n []

-- the transmissions of all items of all pages in the first j slots of the period
pub record AreCollected (ids : List Id) (before cycle : List (List ℕ)) (lines j : ℕ) (lists : List (SmallVec Transmission)) : Type 0 where
  pub count : length lists ≡ 26 * length ids
  pub each : (i : ℕ) (id : Id) (item : Item) → slice_get ids i ≡ Some id → IsId id → IsItem item →
      held lists (place_of_item i item) ≡ sent_scan id lines item (repeated cycle) (entry_owner before id) j

-- the index gives the right answer for every id
abbrev pub IsIndex : List Id → PageIndex → Type 0
IsIndex ids index = (id : Id) → IsId id → Finds ids id (get nat_eq index.by_key (key_of id))
