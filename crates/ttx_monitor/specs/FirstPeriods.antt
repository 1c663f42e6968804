-- The first period of a feed (profile).
--
--   IsFirstPeriod           the slots of the first period of some bytes, or of all of them if that is shorter
use Rattle.std.specs.Prelude.{◌≡◌, ◌⊎◌, ℕ, ◌<◌, ◌≤◌, List, ◌++◌, length, All}
use Rattle.ttx_packet.specs.Slots.{IsSlot}
use Rattle.ttx_cycle.specs.Files.{file_of}

pub record IsFirstPeriod (cycle : List (List ℕ)) (bytes : List ℕ) (head : List (List ℕ)) : Type 0 where
  pub rest : List ℕ
  pub same : bytes ≡ file_of head ++ rest
  pub each : All IsSlot head
  pub few : length head ≤ length cycle
  pub whole : (length head ≡ length cycle) ⊎ (length rest < 42)
