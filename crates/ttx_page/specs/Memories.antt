-- The memory of a receiver: what it holds of the page that it is set to.
--
--   Memory, IsMemory        a memory and the ranges of its fields
--   memory_row, char_at     a row, and one character
--   IsFormer                what a receiver may hold before it is tuned, by class
--   blank_memory, memory_of_page            the memory that has received nothing; the memory of a page received whole
--   Holds, Shows            the memory has an item; it has all that a viewer sees of a page
use Rattle.std.specs.Prelude.{◌≡◌, ℕ, ◌+◌, ◌<◌, ◌≤◌, Bool, true, false, List, [], ◌∷◌, ◌++◌, slice_index, slice_index_or, replicate, length}
use Rattle.ttx_header.specs.Control.{IsControl}
use Rattle.ttx_links.specs.Sets.{LinkSet, no_links}
use Rattle.ttx_page.specs.Pages.{Page, Item, TheHead, TheRow, TheLinks, Class, Any, Clearing, page_row, IsRow, needed, blank_row}

-- Rows 0 to 24, control bits and links; whether the receiver is storing, the slots since the page's latest header (at most 64), and
-- whether no header has come since it was set to the page.
pub record Memory : Type 0 where
  pub rows : List (List ℕ)
  pub control : ℕ
  pub links : LinkSet
  pub storing : Bool
  pub age : ℕ
  pub fresh : Bool

abbrev pub memory_at : List (List ℕ) → ℕ → LinkSet → Bool → ℕ → Bool → Memory
memory_at rows control links storing age fresh = record { rows = rows; control = control; links = links; storing = storing; age = age; fresh = fresh }

abbrev pub memory_row : Memory → ℕ → List ℕ
memory_row m r = slice_index_or m.rows r []

abbrev pub char_at : Memory → ℕ → ℕ → ℕ
char_at m r c = slice_index (memory_row m r) c

-- 25 rows of 40 characters below 128, control bits up to C14, and an age of at most 64
pub record IsMemory (m : Memory) : Type 0 where
  pub row_count : length m.rows ≡ 25
  pub rows : (r : ℕ) → r < 25 → IsRow (memory_row m r)
  pub control : IsControl m.control
  pub at_most : m.age ≤ 64

-- Any memory may be a former memory; for receivers that surely clear, any fresh one.
abbrev pub IsFormer : Class → Memory → Type 0
IsFormer Any m = IsMemory m
IsFormer Clearing m = IsMemory m × (m.fresh ≡ true)

-- nothing received yet
abbrev pub blank_memory : Memory
blank_memory = memory_at (replicate 25 blank_row) 0 no_links false 64 true

-- the page's contents; the clock and columns 0 to 7 of row 0 are spaces
abbrev pub memory_of_page : Page → Memory
memory_of_page p = memory_at ((replicate 8 32 ++ p.head ++ replicate 8 32) ∷ p.rows) p.control p.links false 64 false

-- the memory holds the item's contents
abbrev pub Holds : Page → Memory → Item → Type 0
Holds p m TheHead = (c : ℕ) → c < 24 → char_at m 0 (8 + c) ≡ slice_index p.head c
Holds p m (TheRow number) = memory_row m number ≡ page_row p number
Holds p m TheLinks = m.links ≡ p.links

-- the memory holds all that a viewer sees of the page
pub record Shows (p : Page) (m : Memory) : Type 0 where
  pub control : m.control ≡ p.control
  pub items : (item : Item) → needed p item ≡ true → Holds p m item
