-- Worked examples of the definitions: a cycle of 28 slots that sends one blank page, with two lines in a field.
--
--   base_cycle                    page header 100/0000, two empty slots, rows 1 to 23, X/27/0, the time-filling header
--   Examples                      what the definitions say about it
use Rattle.std.specs.Prelude.{◌≡◌, ℕ, pos, negsuc, Bool, true, false, List, [], ◌∷◌, ◌++◌, slice_set, take, drop, replicate}
use Rattle.ttx_header.specs.Ids.{Id, id_at}
use Rattle.ttx_links.specs.Sets.{no_links}
use Rattle.ttx_packet.specs.Slots.{address_bytes}
use Rattle.ttx_page.specs.Pages.{Page, page_at, TheHead, TheRow, needed, blank_row, AnySub, Any}
use Rattle.ttx_page.specs.Memories.{Memory, memory_at, char_at}
use Rattle.ttx_page.specs.Receivers.{scripted}
use Rattle.ttx_page.specs.Streams.{repeated, IsLatestHeader, IsSureTransmission, IsSure}

-- the id 100/0000
abbrev pub id_100 : Id
id_100 = id_at 1 0 0

abbrev pub empty_slot : List ℕ
empty_slot = replicate 42 0

-- a page header of magazine 1 with C11 and 32 spaces: ten Hamming bytes, then the text
abbrev pub header_slot : List ℕ → List ℕ
header_slot words = words ++ replicate 32 32

-- row n of magazine 1, of spaces
abbrev pub row_slot : ℕ → List ℕ
row_slot n = address_bytes 1 n ++ replicate 40 32

-- no link
abbrev pub none_bytes : List ℕ
none_bytes = 0xea ∷ 0xea ∷ 0xea ∷ 0x2f ∷ 0xea ∷ 0x5e ∷ []

abbrev pub base_cycle : List (List ℕ)
base_cycle =
    header_slot (0x02 ∷ 0x15 ∷ 0x15 ∷ 0x15 ∷ 0x15 ∷ 0x15 ∷ 0x15 ∷ 0x15 ∷ 0x15 ∷ 0x02 ∷ []) ∷ empty_slot ∷ empty_slot
    ∷ row_slot 1 ∷ row_slot 2 ∷ row_slot 3 ∷ row_slot 4 ∷ row_slot 5 ∷ row_slot 6 ∷ row_slot 7 ∷ row_slot 8
    ∷ row_slot 9 ∷ row_slot 10 ∷ row_slot 11 ∷ row_slot 12 ∷ row_slot 13 ∷ row_slot 14 ∷ row_slot 15 ∷ row_slot 16
    ∷ row_slot 17 ∷ row_slot 18 ∷ row_slot 19 ∷ row_slot 20 ∷ row_slot 21 ∷ row_slot 22 ∷ row_slot 23
    ∷ ((0xc7 ∷ 0xb6 ∷ 0x15 ∷ []) ++ none_bytes ++ none_bytes ++ none_bytes ++ none_bytes ++ none_bytes ++ none_bytes ++ (0x2f ∷ 0 ∷ 0 ∷ []))
    ∷ header_slot (0x02 ∷ 0x15 ∷ 0xea ∷ 0xea ∷ 0xea ∷ 0x2f ∷ 0xea ∷ 0x5e ∷ 0x15 ∷ 0x02 ∷ []) ∷ []

-- base_cycle from its slot 10 on
abbrev pub turned_base : List (List ℕ)
turned_base = drop 10 base_cycle ++ take 10 base_cycle

-- base_cycle with row 1 one slot earlier
abbrev pub early_base : List (List ℕ)
early_base = slice_set (slice_set base_cycle 2 (row_slot 1)) 3 empty_slot

-- blank except for a character in row 1, and not fresh
abbrev pub marked_memory : Memory
marked_memory = memory_at (slice_set (replicate 25 blank_row) 1 (0x58 ∷ replicate 39 32)) 0 no_links false 64 false

-- the first character of row 1 after two periods of the early cycle
abbrev pub held_by : List Bool → ℕ
held_by script = char_at (scripted Any 2 (AnySub 1 0) script marked_memory (early_base ++ early_base)) 1 0

-- a page with these control bits, blank except for double height at the beginning of rows 5 and 6
abbrev pub tall_page : ℕ → Page
tall_page control =
    page_at id_100 control (replicate 24 32) (replicate 4 blank_row ++ tall_row ∷ tall_row ∷ replicate 18 blank_row) no_links (0 ∷ 0 ∷ [])
  where
    tall_row : List ℕ
    tall_row = 0x0d ∷ replicate 39 32

-- what the definitions say about these examples
pub record Examples : Type 0 where
  pub owner : IsLatestHeader (repeated base_cycle) 1 (pos 28) (pos 31)
  pub owner_round : IsLatestHeader (repeated turned_base) 1 (negsuc 9) (pos 0)
  pub sure : IsSureTransmission (repeated base_cycle) id_100 2 (TheRow 1) (pos 3)
  pub unsure : IsSure (repeated early_base) 2 1 (TheRow 1) (pos 0) (pos 2) → ⊥
  pub taken : held_by [] ≡ 0x20
  pub missed_once : held_by (true ∷ []) ≡ 0x20
  pub missed_twice : held_by (true ∷ true ∷ []) ≡ 0x58
  pub hidden : needed (tall_page 0x80) (TheRow 6) ≡ false
  pub below : needed (tall_page 0x80) (TheRow 7) ≡ true
  pub inhibited : needed (tall_page 0xc0) (TheRow 7) ≡ false
  pub suppressed : needed (tall_page 0x88) TheHead ≡ false
