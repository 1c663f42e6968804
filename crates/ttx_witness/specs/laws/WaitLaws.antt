-- Laws of how long viewers wait.
--
--   greatest                the greatest of the pages' deadlines, 1 if there are no pages; None if a page has no deadline
--   DeadlineIsGreatest      if no slot is bad, the deadline of the certificate that is found is the greatest
--   IsNear, IsCut           a transmission at most L slots after its header; a later one that a header of another magazine cuts off
--   LossesAreTold           a transmission that is counted as near or cut off is near or cut off in the stream
use Rattle.std.specs.Prelude.{◌≡◌, ◌≢◌, ◌↔◌, ℕ, ◌<◌, ◌≤◌, ℤ, pos, ◌+ℤ◌, ◌<ℤ◌, ◌≤ℤ◌, true, List, [], ◌∷◌, length, map, slice_index_or, Option, Some}
use Rattle.std.specs.List.{AllByRecursion, AllPairs}
use Rattle.ttx_header.specs.Ids.{Id}
use Rattle.ttx_packet.specs.Slots.{is_clean}
use Rattle.ttx_page.specs.Packets.{packet_of}
use Rattle.ttx_page.specs.Views.{page_of, ids_of}
use Rattle.ttx_page.specs.declared.page.Page.{Page as PageValue}
use Rattle.ttx_page.specs.declared.item.Item.{Item}
use Rattle.ttx_page.specs.declared.item.Item.TheVariants.{Head as TheHead}
use Rattle.ttx_page.specs.declared.class.Class.{Class}
use Rattle.ttx_page.specs.Streams.{Stream, repeated, ends_serial}
use Rattle.ttx_witness.specs.runs.Transmissions.{Transmission}
use Rattle.ttx_witness.specs.sent.ItemTransmissions.{sent_in}
use Rattle.ttx_witness.specs.Coverage.{Certificate, IsCertificate}
use Rattle.ttx_witness.specs.search.Finding.{wider, IsFoundFor}
use Rattle.ttx_witness.specs.wait_times.PageWaits.{is_near, is_cut, fields_told, AreWaits}
use Rattle.ttx_witness.specs.declared.wait_times.wait.PageWait.{PageWait}

abbrev pub greatest : List PageWait → Option ℕ
greatest [] = Some 1
greatest (told ∷ rest) = wider (fields_told told.wait) (greatest rest)

abbrev pub DeadlineIsGreatest : Type 0
DeadlineIsGreatest = (cycle : List (List ℕ)) → 1 ≤ length cycle → length cycle ≤ 65536 → (pages : List PageValue) →
    AllPairs (λ a b. a ≢ b) (ids_of pages) →
    (class : Class) (repeat lines : ℕ) → 1 ≤ repeat → repeat ≤ 8 → 1 ≤ lines → lines ≤ 32 →
    (told : List PageWait) → AreWaits cycle (map page_of pages) class repeat lines told →
    (w : Certificate) (deadline : Option ℕ) → IsCertificate w → IsFoundFor cycle (map page_of pages) repeat lines class w deadline →
    ((n : ℕ) → n < length cycle → is_clean (slice_index_or cycle n []) ≡ true) → deadline ≡ greatest told

abbrev pub IsNear : ℕ → Transmission → Type 0
IsNear lines t = t.slot ≤ℤ (t.owner +ℤ pos lines)

-- more than L slots after its header, with a header of another magazine with C11 in between
pub record IsCut (s : Stream) (mag lines : ℕ) (t : Transmission) : Type 0 where
  pub far : (t.owner +ℤ pos lines) <ℤ t.slot
  pub header : ℤ
  pub after : t.owner <ℤ header
  pub before : header <ℤ t.slot
  pub ends : ends_serial mag (packet_of (s header)) ≡ true

pub record IsLossTold (s : Stream) (mag lines : ℕ) (t : Transmission) : Type 0 where
  pub near : (is_near lines t ≡ true) ↔ IsNear lines t
  pub cut : (is_cut lines t ≡ true) ↔ IsCut s mag lines t

-- for each transmission of a row or of the links; a header is never missed
abbrev pub LossesAreTold : Type 0
LossesAreTold = (cycle : List (List ℕ)) → 1 ≤ length cycle → (page : Id) (lines : ℕ) (item : Item) → (item ≡ TheHead → ⊥) →
    AllByRecursion (IsLossTold (repeated cycle) page.mag lines) (sent_in cycle page lines item)
