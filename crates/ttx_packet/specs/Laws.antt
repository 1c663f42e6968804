-- Laws of slots, for the layers above. Each is proved by the function of its name in `laws`.
--
--   KindIsKept                      wrong bits leave the kind of a clean slot unchanged
--   EachSlotMayBeReceivedAsSent     a slot may be received with no wrong bit
--   ClocksAreFree, InfosAreFree     the bytes that may be received as anything, by their positions
--   EmptySlotsAreEmpty              the kind of 42 zero bytes
--   AddressIsReadBack               the kind of a packet that begins with the address written for it
--   RowsAreNumbered                 the packet number of a row
use Rattle.std.specs.Prelude.{◌≡◌, ◌⊎◌, ◌↔◌, ℕ, ◌<◌, ◌≤◌, List, ◌++◌, true, false, slice_index}
use Rattle.ttx_packet.specs.Slots.{IsSlot, IsEmpty, IsHeader, IsRow, IsInfo, kind_of, packet_kind}
use Rattle.ttx_packet.specs.Slots.{is_empty, is_clean, are_words, address_bytes, read_number}
use Rattle.ttx_packet.specs.Receptions.{MayBeReceivedAs}

-- a clean slot that is not empty keeps its kind, magazine and packet number, or is row 2 of magazine 1 and is received as 42 zero bytes
abbrev pub KindIsKept : Type 0
KindIsKept =
    (sent received : List ℕ) → IsSlot sent → is_clean sent ≡ true → is_empty sent ≡ false → MayBeReceivedAs sent received →
    (kind_of received ≡ kind_of sent) ⊎ ((kind_of sent ≡ IsRow 1 2) × (is_empty received ≡ true))

-- a slot may be received as it was sent
abbrev pub EachSlotMayBeReceivedAsSent : Type 0
EachSlotMayBeReceivedAsSent = (slot : List ℕ) → IsSlot slot → MayBeReceivedAs slot slot

-- a page header may be received with any bytes in its clock, bytes 34 to 41
abbrev pub ClocksAreFree : Type 0
ClocksAreFree = (sent received : List ℕ) (mag : ℕ) → kind_of sent ≡ IsHeader mag → IsSlot received →
    ((x : ℕ) → x < 34 → slice_index received x ≡ slice_index sent x) → MayBeReceivedAs sent received

-- packet 8/30 may be received with any bytes after its address, in bytes 2 to 41
abbrev pub InfosAreFree : Type 0
InfosAreFree = (sent received : List ℕ) → kind_of sent ≡ IsInfo → IsSlot received →
    ((x : ℕ) → x < 2 → slice_index received x ≡ slice_index sent x) → MayBeReceivedAs sent received

-- 42 zero bytes have the kind of an empty slot, and no other bytes have it
abbrev pub EmptySlotsAreEmpty : Type 0
EmptySlotsAreEmpty = (slot : List ℕ) → kind_of slot ≡ IsEmpty ↔ is_empty slot ≡ true

-- both bytes of an address are code words, and a packet that begins with them has this magazine and packet number
pub record IsReadBack (mag number : ℕ) (rest : List ℕ) : Type 0 where
  pub words : are_words (address_bytes mag number) ≡ true
  pub numbered : read_number (address_bytes mag number ++ rest) ≡ number
  pub kind : kind_of (address_bytes mag number ++ rest) ≡ packet_kind (address_bytes mag number ++ rest) mag number

abbrev pub AddressIsReadBack : Type 0
AddressIsReadBack = (mag number : ℕ) (rest : List ℕ) → 1 ≤ mag → mag ≤ 8 → number < 32 → IsReadBack mag number rest

-- the packet number of a row is 1 to 24
abbrev pub RowsAreNumbered : Type 0
RowsAreNumbered = (slot : List ℕ) (mag number : ℕ) → kind_of slot ≡ IsRow mag number → (1 ≤ number) × (number ≤ 24)
