-- Slips: slots that a recorder lost or inserted (profile).
--
--   IsFirstPacket           the first slot that is not empty
--   GoesOn                  most of some slots fit from a place of the cycle on, and the first packet among them
--   GoesOff                 most of them do not fit
--   place_on                the place so many slots on
--   IsSlip                  by how many slots a feed has slipped: the least number with which it goes on
use Rattle.std.specs.Prelude.{◌≡◌, ℕ, ◌+◌, ◌*◌, ◌%◌, ◌<◌, ◌≤◌, true, false, List, [], length, slice_index_or, Option, Some, None}
use Rattle.ttx_packet.specs.Slots.{is_empty}
use Rattle.ttx_monitor.specs.Starting.{FitsAt, Misfits, judged_slots}

pub record IsFirstPacket (window : List (List ℕ)) (n : ℕ) : Type 0 where
  pub inside : n < length window
  pub is_packet : is_empty (slice_index_or window n []) ≡ false
  pub first : (m : ℕ) → m < n → is_empty (slice_index_or window m []) ≡ true

-- less than half of the slots cannot have been received if the window begins at this place, and its first packet can
pub record GoesOn (cycle window : List (List ℕ)) (place : ℕ) : Type 0 where
  pub packet : ℕ
  pub is_first : IsFirstPacket window packet
  pub fits : FitsAt cycle window place packet
  pub count : ℕ
  pub misfits : Misfits cycle window place (judged_slots cycle window) count
  pub most : 2 * count < judged_slots cycle window

-- more than half of the slots cannot
abbrev pub GoesOff : List (List ℕ) → List (List ℕ) → ℕ → Type 0
GoesOff cycle window place = (c : ℕ) → Misfits cycle window place (judged_slots cycle window) c → judged_slots cycle window < 2 * c

abbrev pub place_on : List (List ℕ) → ℕ → ℕ → ℕ
place_on cycle place by = (place + by) % length cycle

abbrev pub IsSlip : List (List ℕ) → List (List ℕ) → ℕ → Option ℕ → Type 0
IsSlip cycle window place None =
    GoesOff cycle window place → (by : ℕ) → 1 ≤ by → by < length cycle → GoesOn cycle window (place_on cycle place by) → ⊥
IsSlip cycle window place (Some by) =
    GoesOff cycle window place × (1 ≤ by) × (by < length cycle) × GoesOn cycle window (place_on cycle place by)
    × ((less : ℕ) → 1 ≤ less → less < by → GoesOn cycle window (place_on cycle place less) → ⊥)
