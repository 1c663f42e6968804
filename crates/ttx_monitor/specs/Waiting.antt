-- Slots that have been read and are still to be judged.
--
--   waiting                 these slots
--   IsBehind, IsLeft        what follows them in the feed; the bytes from the first of them on
--   HasMore, HasOneMore, IsEnough    more slots wait behind the same ones; so many wait, or the feed ends
use Rattle.std.specs.Prelude.{◌≡◌, ◌⊎◌, ℕ, ◌+◌, ◌<◌, ◌≤◌, Bool, true, false, List, ◌++◌, length, drop, All, Option, Some, None, IsSome}
use Rattle.ttx_packet.specs.Slots.{IsSlot}
use Rattle.ttx_cycle.specs.Files.{file_of}
use Rattle.ttx_monitor.specs.declared.ahead.Ahead.{Ahead}

abbrev pub waiting : Ahead → List (List ℕ)
waiting a = drop a.at a.slots.items

-- what can still be read, where that is known, or less than the bytes of a slot
abbrev pub IsBehind : Option ℕ → Option (List ℕ) → List ℕ → Type 0
IsBehind None remaining bytes = remaining ≡ Some bytes
IsBehind (Some rest) remaining bytes = (rest < 42) × (length bytes ≡ rest)

pub record IsLeft (a : Ahead) (remaining : Option (List ℕ)) (bytes : List ℕ) : Type 0 where
  pub behind : List ℕ
  pub same : bytes ≡ file_of (waiting a) ++ behind
  pub each : All IsSlot (waiting a)
  pub is_behind : IsBehind a.end remaining behind

abbrev pub HasMore : Ahead → Ahead → Type 0
HasMore old new = (more : List (List ℕ)) × (waiting new ≡ waiting old ++ more)

-- one more slot waits, or the end of the feed has been read
abbrev pub HasOneMore : Bool → Ahead → Ahead → Type 0
HasOneMore true old new = (new.end ≡ None) × (length (waiting new) ≡ length (waiting old) + 1)
HasOneMore false old new = IsSome new.end

abbrev pub IsEnough : ℕ → Ahead → Type 0
IsEnough most a = (most ≤ length (waiting a)) ⊎ IsSome a.end
