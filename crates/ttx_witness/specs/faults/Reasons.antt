-- The reasons why a cycle is not accepted that concern single slots and the starts of items. Reasons 2 to 7 are defined in `Steady` of
-- ttx_page.
--
--   BadSlotAt               a slot that one wrong bit in each byte can turn into another packet (reason 1)
--   HasNoWitness            no start is named for an item that a viewer sees (8)
--   WitnessBadAt            a named start without a sure run (9)
--   LateAt                  the run from the next named start ends too late (10)
--   LateBlankAt             the next header comes too late, for a blank item without named starts (12)
use Rattle.std.specs.Prelude.{◌≡◌, ℕ, ◌<◌, ℤ, pos, ◌+ℤ◌, ◌<ℤ◌, ◌≤ℤ◌, true, false, List, [], length, slice_index_or, Contains}
use Rattle.ttx_packet.specs.Slots.{is_clean}
use Rattle.ttx_page.specs.Packets.{packet_of}
use Rattle.ttx_page.specs.Pages.{Page, IsBlank, needed}
use Rattle.ttx_page.specs.declared.item.Item.{Item}
use Rattle.ttx_page.specs.declared.class.Class.TheVariants.{Clearing}
use Rattle.ttx_page.specs.Streams.{repeated, IsOwned, EndsBelow, heads_page}
use Rattle.ttx_certificate.specs.NamedStarts.{next_start}
use Rattle.ttx_witness.specs.Coverage.{Certificate, limit, IsSureStart}

pub record BadSlotAt (cycle : List (List ℕ)) (slot : ℕ) : Type 0 where
  pub within : slot < length cycle
  pub bad : is_clean (slice_index_or cycle slot []) ≡ false

-- no start is named, and the item is not one that a receiver which surely clears holds already
pub record HasNoWitness (p : Page) (w : Certificate) (item : Item) : Type 0 where
  pub needed : needed p item ≡ true
  pub none : w.starts p.id item ≡ []
  pub sent : w.class ≡ Clearing → IsBlank p item → ⊥

pub record WitnessBadAt (cycle : List (List ℕ)) (p : Page) (w : Certificate) (item : Item) (start : ℕ) : Type 0 where
  pub needed : needed p item ≡ true
  pub named : Contains (w.starts p.id item) start
  pub bad : IsSureStart cycle p.id w.lines w.repeat item start → ⊥

-- The start is the i-th named one; the run from the next one, round the cycle, ends later than the deadline after its owner.
pub record LateAt (cycle : List (List ℕ)) (p : Page) (w : Certificate) (item : Item) (start : ℕ) : Type 0 where
  pub needed : needed p item ≡ true
  pub index : ℕ
  pub within : index < length (w.starts p.id item)
  pub is : start ≡ slice_index_or (w.starts p.id item) index 0
  pub owner : ℤ
  pub owned : IsOwned (repeated cycle) p.id item owner (pos start)
  pub late :
      EndsBelow (repeated cycle) p.id w.repeat item (next_start (length cycle) (w.starts p.id item) index) ((owner +ℤ pos (limit w)) +ℤ pos 1) → ⊥

pub record LateBlankAt (cycle : List (List ℕ)) (p : Page) (w : Certificate) (item : Item) (header : ℕ) : Type 0 where
  pub needed : needed p item ≡ true
  pub clearing : w.class ≡ Clearing
  pub blank : IsBlank p item
  pub none : w.starts p.id item ≡ []
  pub within : header < length cycle
  pub is_header : heads_page p.id (packet_of (repeated cycle (pos header))) ≡ true
  pub late : (i : ℤ) → pos header <ℤ i → i ≤ℤ (pos header +ℤ pos (limit w)) → heads_page p.id (packet_of (repeated cycle i)) ≡ false
