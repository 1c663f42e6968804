-- What is within the error rule, with its bytes and bits written out, and what is not.
--
--   AreSame, AreNear        bytes received as sent; bytes received with at most one wrong bit each
--   HasRightText            a slot whose text is received as sent
--   HasWrongText            a slot that may have a wrong bit in each byte
--   WrongTextIsReceived     wrong text in fewer than k slots, and other wrong bits everywhere, are within the rule for repeat k
--   MemoriesAreFormer       which memories are former memories
--   spoilt_base, AreOutside examples outside the rule: wrong text in both transmissions at repeat 2; two wrong bits in a byte
use Rattle.std.specs.Prelude.{◌≡◌, ◌⊎◌, ℕ, ◌<◌, ◌≤◌, ℤ, pos, ◌+ℤ◌, true, false, List, [], ◌++◌}
use Rattle.std.specs.Prelude.{length, slice_index, slice_index_or, slice_set, Contains}
use Rattle.ttx_code.specs.Words.{distance}
use Rattle.ttx_packet.specs.Slots.{IsSlot, Kind, IsEmpty, IsHeader, IsRow, IsInfo, kind_of, is_empty}
use Rattle.ttx_packet.specs.Receptions.{MayBeReceivedAs}
use Rattle.ttx_header.specs.Ids.{Id}
use Rattle.ttx_page.specs.declared.memory.PageMemory.{PageMemory}
use Rattle.ttx_page.specs.declared.class.Class.TheVariants.{Any, Clearing}
use Rattle.ttx_page.specs.Memories.{IsFormer}
use Rattle.ttx_page.specs.Views.{memory_of}
use Rattle.ttx_page.specs.Streams.{Stream, repeated}
use Rattle.ttx_page.specs.Receptions.{Received}
use Rattle.ttx_page.specs.Examples.{id_100, base_cycle, row_slot}

-- the bytes from `first` to before `end`
abbrev pub AreSame : ℕ → ℕ → List ℕ → List ℕ → Type 0
AreSame first end sent received = (x : ℕ) → first ≤ x → x < end → slice_index received x ≡ slice_index sent x

abbrev pub AreNear : ℕ → ℕ → List ℕ → List ℕ → Type 0
AreNear first end sent received = (x : ℕ) → first ≤ x → x < end → distance (slice_index sent x) (slice_index received x) ≤ 1

-- The text of headers and rows is right. Every other byte has at most one wrong bit, except that a clock (bytes 34 to 41 of a
-- header) and what follows the address of packet 8/30 may be anything.
abbrev pub HasRightText : Kind → List ℕ → List ℕ → Type 0
HasRightText IsEmpty sent received = received ≡ sent
HasRightText (IsHeader mag) sent received = AreNear 0 10 sent received × AreSame 10 34 sent received
HasRightText (IsRow mag number) sent received = AreNear 0 2 sent received × AreSame 2 42 sent received
HasRightText IsInfo sent received = AreNear 0 2 sent received
HasRightText _ sent received = AreNear 0 42 sent received

-- each byte of a slot that is not empty has at most one wrong bit
abbrev pub HasWrongText : List ℕ → List ℕ → Type 0
HasWrongText sent received = (is_empty sent ≡ false) × AreNear 0 42 sent received

-- Each slot is received with its text right, except the slots of a list, and the list is shorter than the repeat count.
abbrev pub WrongTextIsReceived : Type 0
WrongTextIsReceived =
    (s : Stream) (page : Id) (repeat : ℕ) (tau : ℤ) (received : List (List ℕ)) (wrong : List ℕ) → length wrong < repeat →
    ((n : ℕ) → n < length received → let sent = s (tau +ℤ pos n) in let slot = slice_index_or received n [] in
    IsSlot slot × (HasRightText (kind_of sent) sent slot ⊎ (Contains wrong n × HasWrongText sent slot))) →
    Received s page repeat tau received

-- Every memory is a former memory for receivers of class any, and every fresh one for receivers that surely clear.
abbrev pub MemoriesAreFormer : Type 0
MemoriesAreFormer = (m : PageMemory) → IsFormer Any (memory_of m) × ((memory_of m).fresh ≡ true → IsFormer Clearing (memory_of m))

-- base_cycle with a byte of row 1 received wrong, by one bit
abbrev pub spoilt_base : List (List ℕ)
spoilt_base = slice_set base_cycle 3 (slice_set (row_slot 1) 2 0x21)

pub record AreOutside : Type 0 where
  pub both_wrong : Received (repeated base_cycle) id_100 2 (pos 0) (spoilt_base ++ spoilt_base) → ⊥
  pub two_bits : MayBeReceivedAs (row_slot 1) (slice_set (row_slot 1) 2 0x23) → ⊥
