-- The kind of a slot, by its 42 bytes (EN 300 706, 9.3.1 for page headers, 9.3.2 for rows, 9.6.1 for X/27, 9.8.1 for 8/30).
-- Bytes are counted from 0, after clock run-in and framing code.
--
--   IsSlot                      42 bytes
--   Kind, kind_of, packet_kind  the kind of a slot, with the magazine and the packet number: the first case that fits
--   is_empty, are_readable, are_words   tests of bytes
--   magazine, packet_number, read_number, address_bytes   the address: how it is read, and the two bytes that send it
--   is_clean                    one wrong bit in each byte cannot turn the slot into another packet
use Rattle.std.specs.Prelude.{◌≡◌, ℕ, ◌+◌, ◌*◌, ◌/◌, ◌%◌, ◌<◌, ◌^◌, List, [], ◌∷◌, Bool, nat_le, not, ◌==◌, ◌&&◌}
use Rattle.std.specs.Prelude.{◌||◌, Option, Some, None, if◌then◌else◌, is_some, length, slice_index, slice_range}
use Rattle.std.specs.List.{list_all}
use Rattle.ttx_code.specs.Words.{reading, number_of, hamming_word, is_word}

-- a slot holds 42 bytes
pub record IsSlot (slot : List ℕ) : Type 0 where
  pub size : length slot ≡ 42
  pub bytes : (x : ℕ) → slice_index slot x < 2 ^ 8

-- A slot is empty, unreadable, or a packet of a kind, with its magazine (1 to 8) and, if the kind leaves it open, its packet number.
pub data Kind : Type 0 where
  IsEmpty : Kind
  IsUnreadable : Kind
  IsHeader : (mag : ℕ) → Kind
  IsRow : (mag number : ℕ) → Kind
  IsLinks : (mag : ℕ) → Kind
  IsInfo : Kind
  IsOther : (mag number : ℕ) → Kind

-- 42 zero bytes: an empty line
abbrev pub is_empty : List ℕ → Bool
is_empty slot = list_all (λ b. b == 0) slot

abbrev pub are_readable : List ℕ → Bool
are_readable bytes = list_all (λ b. is_some (reading b)) bytes

abbrev pub are_words : List ℕ → Bool
are_words bytes = list_all is_word bytes

-- the magazine, from the number in byte 0: its lowest three bits, where 0 means magazine 8
abbrev pub magazine : ℕ → ℕ
magazine low = if low % 8 == 0 then 8 else low % 8

-- the packet number, from the numbers in bytes 0 and 1
abbrev pub packet_number : ℕ → ℕ → ℕ
packet_number low high = low / 8 + 2 * high

-- the kind of packet 27, by its designation
abbrev pub links_kind : ℕ → Option ℕ → Kind
links_kind mag None = IsUnreadable
links_kind mag (Some designation) = if designation == 0 then IsLinks mag else IsOther mag 27

-- the kind of a packet by its magazine and number
unfoldable pub packet_kind : List ℕ → ℕ → ℕ → Kind
packet_kind slot mag number =
    if number == 0 then (if are_readable (slice_range slot 2 10) then IsHeader mag else IsUnreadable)
    else if nat_le number 24 then IsRow mag number
    else if number == 27 then links_kind mag (reading (slice_index slot 2))
    else if (number == 30) && (mag == 8) then IsInfo
    else IsOther mag number

abbrev pub addressed_kind : List ℕ → Option ℕ → Option ℕ → Kind
addressed_kind slot None high = IsUnreadable
addressed_kind slot (Some low) None = IsUnreadable
addressed_kind slot (Some low) (Some high) = packet_kind slot (magazine low) (packet_number low high)

-- the kind of a slot; empty comes first, because a single zero byte would read as 1
unfoldable pub kind_of : List ℕ → Kind
kind_of slot =
    if is_empty slot then IsEmpty else addressed_kind slot (reading (slice_index slot 0)) (reading (slice_index slot 1))

-- the two bytes of an address
abbrev pub address_bytes : ℕ → ℕ → List ℕ
address_bytes mag number = hamming_word (mag % 8 + 8 * (number % 2)) ∷ hamming_word (number / 2) ∷ []

-- the packet number that the address reads as
abbrev pub read_number : List ℕ → ℕ
read_number slot = packet_number (number_of (slice_index slot 0)) (number_of (slice_index slot 1))

-- The slot is empty; or its address is two code words, and so are bytes 2 to 9 of a page header and byte 2 of a packet 27.
unfoldable pub is_clean : List ℕ → Bool
is_clean slot =
    is_empty slot
    || (are_words (slice_range slot 0 2)
    && (not (read_number slot == 0) || are_words (slice_range slot 2 10))
    && (not (read_number slot == 27) || is_word (slice_index slot 2)))
