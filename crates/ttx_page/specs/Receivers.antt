-- Receivers: what a slot, and a list of slots, may do to a memory (EN 300 706 leaves receivers choices; the age rule is profile).
--
--   stored_row              a row after bytes are received in its place
--   with_row, with_storing, with_links      a memory with one field changed
--   older, erased, begun    one more slot; rows 1 to 24 and links cleared; a header that the selection matches
--   erases, misses          when a receiver erases, and when it misses a packet
--   after, Step             the memory after a slot, by the receiver's choice
--   Run                     the memory after a list of slots
--   has_choice              when a receiver has a choice
--   scripted                the memory of a receiver that takes its choices from a list
use Rattle.std.specs.Prelude.{◌≡◌, ℕ, ◌+◌, min, Bool, true, false, not, ◌&&◌, ◌||◌, if◌then◌else◌, List, []}
use Rattle.std.specs.Prelude.{◌∷◌, ◌++◌, Option, Some, None, nat_le, ◌==◌, slice_set, take, drop, replicate}
use Rattle.ttx_code.specs.Words.{stored}
use Rattle.ttx_header.specs.Control.{c4, c11}
use Rattle.ttx_links.specs.Sets.{LinkSet, no_links}
use Rattle.ttx_page.specs.Packets.{Packet, Header, Row, Links, packet_of}
use Rattle.ttx_page.specs.Pages.{Selection, Class, Any, Clearing, selected_mag, matches, blank_row}
use Rattle.ttx_page.specs.Memories.{Memory, memory_row}

-- each byte of odd parity stores its character; the others leave what was held (8.1)
abbrev pub stored_row : List ℕ → List ℕ → List ℕ
stored_row [] bytes = []
stored_row (c ∷ row) [] = c ∷ row
stored_row (c ∷ row) (b ∷ bytes) = stored b c ∷ stored_row row bytes

abbrev pub with_row : Memory → ℕ → List ℕ → Memory
with_row m r row = record m { rows = slice_set m.rows r row }

abbrev pub with_storing : Memory → Bool → Memory
with_storing m storing = record m { storing = storing }

-- an X/27/0 with an unreadable byte changes nothing (9.6.1)
abbrev pub with_links : Memory → Option LinkSet → Memory
with_links m None = m
with_links m (Some content) = record m { links = content }

-- the age grows by one at every slot, up to 64
abbrev pub older : Memory → Memory
older m = record m { age = min (m.age + 1) 64 }

-- rows 1 to 24 are spaces, and there are no links
abbrev pub erased : Memory → Memory
erased m = record m { rows = take 1 m.rows ++ replicate 24 blank_row; links = no_links }

-- a header that the selection matches: its text goes to columns 8 to 39 of row 0, and storing begins (9.3.1)
abbrev pub begun : Memory → ℕ → List ℕ → Memory
begun m control text =
    let row = memory_row m 0 in
    record m { rows = slice_set m.rows 0 (take 8 row ++ stored_row (drop 8 row) text); control = control; storing = true; age = 0; fresh = false }

-- A matching header with C4 erases. So does the first one since the receiver was set to the page: if it chooses to, or surely.
abbrev pub erases : Class → Bool → Memory → ℕ → Bool
erases Any choice m control = c4 control || (m.fresh && choice)
erases Clearing choice m control = c4 control || m.fresh

-- a row or an X/27/0 may be missed up to L slots after its header
abbrev pub misses : ℕ → Bool → Memory → Bool
misses lines choice m = choice && nat_le m.age lines

-- The memory after one slot; its age has already grown. The choice is whether to erase, to end storing at a header of another
-- magazine with C11, or to miss a packet.
abbrev pub after : Class → ℕ → Selection → Bool → Memory → Packet → Memory
after class lines sel choice m (Header id control text) =
    if matches sel id then begun (if erases class choice m control then erased m else m) control text
    else (if id.mag == selected_mag sel then with_storing m false
    else (if c11 control && choice then with_storing m false else m))
after class lines sel choice m (Row mag number text) =
    if (mag == selected_mag sel) && m.storing && not (misses lines choice m)
    then with_row m number (stored_row (memory_row m number) text) else m
after class lines sel choice m (Links mag content) =
    if (mag == selected_mag sel) && m.storing && not (misses lines choice m) then with_links m content else m
after class lines sel choice m _ = m

-- what one slot may turn a memory into
pub record Step (class : Class) (lines : ℕ) (sel : Selection) (m : Memory) (received : List ℕ) (new : Memory) : Type 0 where
  pub choice : Bool
  pub is : new ≡ after class lines sel choice (older m) (packet_of received)

-- what a list of slots may turn a memory into: one step for each slot
abbrev pub Run : Class → ℕ → Selection → Memory → List (List ℕ) → Memory → Type 0
Run class lines sel m [] new = new ≡ m
Run class lines sel m (received ∷ rest) new = (mid : Memory) × Step class lines sel m received mid × Run class lines sel mid rest new

-- a receiver that may clear the page when it is set to it chooses at a matching header whether to erase
abbrev pub may_erase : Class → Memory → Bool
may_erase Any m = m.fresh
may_erase Clearing m = false

-- whether the receiver has a choice at a packet; its age has already grown
abbrev pub has_choice : Class → ℕ → Selection → Memory → Packet → Bool
has_choice class lines sel m (Header id control text) =
    if matches sel id then may_erase class m && not (c4 control)
    else not (id.mag == selected_mag sel) && c11 control && m.storing
has_choice class lines sel m (Row mag number text) = (mag == selected_mag sel) && m.storing && nat_le m.age lines
has_choice class lines sel m (Links mag content) = (mag == selected_mag sel) && m.storing && nat_le m.age lines
has_choice class lines sel m _ = false

-- the next choice of a script, if there is one to make; after its end the choices are not taken
abbrev pub next_choice : Bool → List Bool → Bool
next_choice true (choice ∷ script) = choice
next_choice true [] = false
next_choice false script = false

-- the choices that are left
abbrev pub later_choices : Bool → List Bool → List Bool
later_choices true (choice ∷ script) = script
later_choices true [] = []
later_choices false script = script

-- the memory of a receiver that takes its choices from a script
abbrev pub scripted : Class → ℕ → Selection → List Bool → Memory → List (List ℕ) → Memory
scripted class lines sel script m [] = m
scripted class lines sel script m (received ∷ rest) =
    let has = has_choice class lines sel (older m) (packet_of received) in
    scripted class lines sel (later_choices has script) (after class lines sel (next_choice has script) (older m) (packet_of received)) rest
