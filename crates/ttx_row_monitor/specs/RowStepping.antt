-- One step of a row monitor.
--
--   IsRowShift              whether and by how much the feed has slipped at a slot that does not arrive
--   IsRowPlaced             a row monitor and what waits, once this is known
--   ComesNext               the slot that comes next, and the bytes after it
--   IsRowStep               what is made of the next slot, or the end of the feed
use Rattle.std.specs.Prelude.{◌≡◌, ◌⊎◌, ℕ, ◌<◌, List, [], ◌∷◌, ◌++◌, length, Option, Some, None}
use Rattle.ttx_packet.specs.Slots.{IsSlot}
use Rattle.ttx_monitor.specs.Watching.{Watched, sent_at}
use Rattle.ttx_monitor.specs.Events.{IsShift}
use Rattle.ttx_monitor.specs.Stepping.{BeginsWith}
use Rattle.ttx_monitor.specs.Waiting.{IsLeft}
use Rattle.ttx_monitor.specs.declared.ahead.Ahead.{Ahead}
use Rattle.ttx_row_monitor.specs.RowFeeds.{Arrives, IsWithinByRows}
use Rattle.ttx_row_monitor.specs.RowStanding.{RowStands, IsRowHeard}
use Rattle.ttx_row_monitor.specs.declared.monitor.RowMonitor.{RowMonitor}
use Rattle.ttx_row_monitor.specs.declared.row_step.RowStep.{RowStep}
use Rattle.ttx_row_monitor.specs.declared.row_step.RowStep.TheVariants.{Heard, Broken, Slipped, End}

-- the slot comes after a feed, and is the first of these bytes
abbrev pub IsRowShift : Watched → List (List ℕ) → List ℕ → List ℕ → Option ℕ → Type 0
IsRowShift w feed bytes slot None = Arrives w.pages (sent_at w (length feed)) slot ⊎ IsShift w (length feed) bytes slot None
IsRowShift w feed bytes slot (Some by) =
    (Arrives w.pages (sent_at w (length feed)) slot → ⊥) × IsShift w (length feed) bytes slot (Some by)

abbrev pub IsRowPlaced : Watched → List (List ℕ) → List ℕ → List ℕ → RowMonitor → Ahead → Option (List ℕ) → Option ℕ → Type 0
IsRowPlaced w feed bytes slot m a remaining None =
    IsRowShift w feed bytes slot None × RowStands m w feed × IsLeft a remaining bytes × BeginsWith slot a
IsRowPlaced w feed bytes slot m a remaining (Some by) = IsRowShift w feed bytes slot (Some by)

pub record ComesNext (bytes slot after : List ℕ) : Type 0 where
  pub same : bytes ≡ slot ++ after
  pub is_slot : IsSlot slot

-- the slot arrives, and the feed with it is within the rule if it was before
pub record IsHeardNext (w : Watched) (feed : List (List ℕ)) (bytes : List ℕ) (m : RowMonitor) (a : Ahead) (remaining : Option (List ℕ)) : Type 0 where
  pub slot : List ℕ
  pub after : List ℕ
  pub next : ComesNext bytes slot after
  pub stands : RowStands m w (feed ++ slot ∷ [])
  pub within : IsWithinByRows w feed → IsWithinByRows w (feed ++ slot ∷ [])
  pub left : IsLeft a remaining after

abbrev pub IsRowStep : Watched → List (List ℕ) → List ℕ → RowMonitor → Ahead → Option (List ℕ) → RowStep → Type 0
IsRowStep w feed bytes m a remaining Heard = IsHeardNext w feed bytes m a remaining
IsRowStep w feed bytes m a remaining (Broken breach) =
    (slot : List ℕ) × (after : List ℕ) × ComesNext bytes slot after × IsRowShift w feed bytes slot None × IsRowHeard w feed slot (Some breach)
IsRowStep w feed bytes m a remaining (Slipped by) =
    (slot : List ℕ) × (after : List ℕ) × ComesNext bytes slot after × IsRowShift w feed bytes slot (Some by)
IsRowStep w feed bytes m a remaining (End rest) = (rest < 42) × (length bytes ≡ rest) × RowStands m w feed
