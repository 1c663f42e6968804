-- A feed that is read slot by slot until it ends or breaks the error rule (profile).
--
--   IsWhole, IsBroken, IsSlipped    how the reading of a feed ends
--   IsEnding, IsOver        a slot ends the reading; which cycle a monitor watches
--   HearsAll                what a monitor makes of a feed of these bytes
use Rattle.std.specs.Prelude.{◌≡◌, ◌⊎◌, ℕ, ◌-◌, ◌^◌, ◌<◌, ◌≤◌, List, ◌++◌, length, Some, None}
use Rattle.ttx_packet.specs.Slots.{IsSlot}
use Rattle.ttx_cycle.specs.Files.{file_of}
use Rattle.ttx_monitor.specs.Watching.{Watched, IsWithin}
use Rattle.ttx_monitor.specs.Breaches.{IsHeard}
use Rattle.ttx_monitor.specs.Events.{IsShift}
use Rattle.ttx_monitor.specs.Standing.{Stands}
use Rattle.ttx_monitor.specs.declared.breach.Breach.{Breach}
use Rattle.ttx_monitor.specs.declared.event.Event.{Event}
use Rattle.ttx_monitor.specs.declared.feed_verdict.Heard.{Heard}
use Rattle.ttx_monitor.specs.declared.feed_verdict.Heard.TheVariants.{End, Broken, Slipped}
use Rattle.ttx_monitor.specs.declared.monitor.Monitor.{Monitor}

-- the feed has these slots, and then less than the bytes of a slot (no feed of 2 ^ 64 - 1 slots has an end)
pub record IsWhole (w : Watched) (bytes : List ℕ) (m : Monitor) (rest : ℕ) : Type 0 where
  pub feed : List (List ℕ)
  pub tail : List ℕ
  pub same : bytes ≡ file_of feed ++ tail
  pub ended : ((rest < 42) × (length tail ≡ rest)) ⊎ (2 ^ 64 - 1 ≤ length feed)
  pub stands : Stands m w feed
  pub within : IsWithin w feed

-- the slots before are within the rule; the next one has not slipped, and breaks it
pub record IsBroken (w : Watched) (bytes : List ℕ) (slot : ℕ) (breach : Breach) : Type 0 where
  pub feed : List (List ℕ)
  pub received : List ℕ
  pub rest : List ℕ
  pub same : bytes ≡ (file_of feed ++ received) ++ rest
  pub is_slot : IsSlot received
  pub within : IsWithin w feed
  pub in_place : IsShift w (length feed) (received ++ rest) received None
  pub how : IsHeard w feed received (Some breach)
  pub slot_is : slot ≡ length feed

-- the slots before are within the rule; from the next one on the feed has slipped
pub record IsSlipped (w : Watched) (bytes : List ℕ) (slot by : ℕ) : Type 0 where
  pub feed : List (List ℕ)
  pub received : List ℕ
  pub rest : List ℕ
  pub same : bytes ≡ (file_of feed ++ received) ++ rest
  pub is_slot : IsSlot received
  pub within : IsWithin w feed
  pub how : IsShift w (length feed) (received ++ rest) received (Some by)
  pub slot_is : slot ≡ length feed

-- a slot ends the reading
abbrev pub IsEnding : ℕ → Event → Heard → Type 0
IsEnding slot e (End rest) = ⊥
IsEnding slot e (Broken at breach) = (at ≡ slot) × (e.shift ≡ None) × (e.breach ≡ Some breach)
IsEnding slot e (Slipped at by) = (at ≡ slot) × (e.shift ≡ Some by)

-- a monitor of this cycle
abbrev pub IsOver : Monitor → List (List ℕ) → Type 0
IsOver m cycle = (w : Watched) × (feed : List (List ℕ)) × Stands m w feed × (w.cycle ≡ cycle)

abbrev pub HearsAll : Watched → List ℕ → Monitor → Heard → Type 0
HearsAll w bytes m (End rest) = IsWhole w bytes m rest
HearsAll w bytes m (Broken slot breach) = IsBroken w bytes slot breach
HearsAll w bytes m (Slipped slot by) = IsSlipped w bytes slot by × IsOver m w.cycle
