-- Hits as numbers, in the order of their slots and bytes.
--
--   hit_key                 a hit as one number: the slot, the byte, the bit
--   slot_in, byte_in, bit_in, byte_place    the parts of such a number; slot and byte together
--   key_at                  the number at a place of a list
--   AreHitOnce              no byte of a slot is hit twice
--   AreSlotKeys             the numbers of one slot: those from one place to before another
--   AreOfOtherBytes         the numbers from one place to before another hit different bytes
--   AreFlipped              a slot with those bits flipped
--   is_hit                  whether a byte of a slot is hit
use Rattle.std.specs.Prelude.{◌≡◌, ℕ, ◌+◌, ◌*◌, ◌/◌, ◌%◌, ◌<◌, ◌≤◌, Bool, ◌==◌, List, length, slice_index}
use Rattle.std.specs.List.{list_any}
use Rattle.ttx_counter.specs.Counters.{Hit, flipped}

abbrev pub hit_key : Hit → ℕ
hit_key h = h.index * 65536 + h.byte * 256 + h.bit

abbrev pub slot_in : ℕ → ℕ
slot_in key = key / 65536

abbrev pub byte_in : ℕ → ℕ
byte_in key = key / 256 % 256

abbrev pub bit_in : ℕ → ℕ
bit_in key = key % 256

abbrev pub byte_place : ℕ → ℕ
byte_place key = key / 256

abbrev pub key_at : List ℕ → ℕ → ℕ
key_at keys i = slice_index keys i

-- any two differ in slot or byte
abbrev pub AreHitOnce : List ℕ → Type 0
AreHitOnce keys = (i j : ℕ) → i < j → j < length keys → byte_place (key_at keys i) ≡ byte_place (key_at keys j) → ⊥

-- the byte is one of a slot, and the bit one of a byte
pub record IsKey (key : ℕ) : Type 0 where
  pub byte : byte_in key < 42
  pub some : 1 ≤ bit_in key
  pub bit : bit_in key ≤ 8

-- the numbers from place `from` to before place `to` are those of the slot, and the next one is not
pub record AreSlotKeys (keys : List ℕ) (n from to : ℕ) : Type 0 where
  pub up : from ≤ to
  pub within : to ≤ length keys
  pub own : (i : ℕ) → from ≤ i → i < to → slot_in (key_at keys i) ≡ n
  pub ended : to < length keys → slot_in (key_at keys to) ≡ n → ⊥

-- any two of the numbers from place `from` to before place `to` hit different bytes
abbrev pub AreOfOtherBytes : List ℕ → ℕ → ℕ → Type 0
AreOfOtherBytes keys from to = (i j : ℕ) → from ≤ i → i < j → j < to → byte_in (key_at keys i) ≡ byte_in (key_at keys j) → ⊥

-- the bits of the numbers in these places are flipped
pub record AreFlipped (keys : List ℕ) (from to : ℕ) (sent received : List ℕ) : Type 0 where
  pub size : length received ≡ length sent
  pub hit : (i : ℕ) → from ≤ i → i < to → slice_index received (byte_in (key_at keys i)) ≡ flipped (bit_in (key_at keys i)) (slice_index sent
      (byte_in (key_at keys i)))
  pub other : (x : ℕ) → ((i : ℕ) → from ≤ i → i < to → byte_in (key_at keys i) ≡ x → ⊥) → slice_index received x ≡ slice_index sent x

-- whether byte x of slot n is hit
unfoldable pub is_hit : List ℕ → ℕ → ℕ → Bool
is_hit keys x n = list_any (λ key. byte_place key == n * 256 + x) keys
