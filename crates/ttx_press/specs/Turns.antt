-- Turns: a cycle that begins at another page header is the same cycle once it repeats (profile).
--
--   turned                  the slots from one on, and then those before it
--   page_begun, first_begun         the page whose header is in a slot; the first such page of a cycle
--   is_one, is_place        whether a page is this one; whether a slot begins this page, or another one
--   places                  the slots that begin a page, the first of which has this number
--   turns                   where a new cycle may begin: where it goes on as the old one begins again, and then elsewhere
--   TurnsSendTheSame        a turned cycle, once it repeats, is the cycle some slots later
use Rattle.std.specs.Prelude.{◌≡◌, ℕ, ◌+◌, ◌<◌, ◌≤◌, ℤ, pos, ◌+ℤ◌, Bool, true, false, not, ◌&&◌, if◌then◌else◌, List, [], ◌∷◌, ◌++◌, length, drop, take}
use Rattle.std.specs.Prelude.{Option, Some, None}
use Rattle.ttx_header.specs.Headers.{id_of, is_header}
use Rattle.ttx_header.specs.Ids.{Id, same_id, is_time_filling}
use Rattle.ttx_page.specs.Streams.{repeated}

abbrev pub turned : ℕ → List (List ℕ) → List (List ℕ)
turned at cycle = drop at cycle ++ take at cycle

-- a time-filling header begins no page
abbrev pub page_begun : List ℕ → Option Id
page_begun slot = if is_header slot && not (is_time_filling (id_of slot)) then Some (id_of slot) else None

abbrev pub or_else : Option Id → Option Id → Option Id
or_else None b = b
or_else (Some a) b = Some a

abbrev pub first_begun : List (List ℕ) → Option Id
first_begun [] = None
first_begun (slot ∷ slots) = or_else (page_begun slot) (first_begun slots)

abbrev pub is_one : Option Id → Id → Bool
is_one None id = false
is_one (Some first) id = same_id id first

abbrev pub is_place : Option Id → Bool → Option Id → Bool
is_place first same None = false
is_place first same (Some id) = if same then is_one first id else not (is_one first id)

abbrev pub places : Option Id → Bool → ℕ → List (List ℕ) → List ℕ
places first same at [] = []
places first same at (slot ∷ slots) = (if is_place first same (page_begun slot) then at ∷ [] else []) ++ places first same (at + 1) slots

-- slot 0 is no turn
abbrev pub turns : List (List ℕ) → List (List ℕ) → List ℕ
turns old new = places (first_begun old) true 1 (drop 1 new) ++ places (first_begun old) false 1 (drop 1 new)

abbrev pub TurnsSendTheSame : Type 0
TurnsSendTheSame = (cycle : List (List ℕ)) (at : ℕ) (i : ℤ) → 0 < length cycle → at ≤ length cycle →
    repeated (turned at cycle) i ≡ repeated cycle (i +ℤ pos at)
