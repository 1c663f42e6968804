-- How a slot may be received: every byte with at most one wrong bit, except the bytes that are not compared.
--
--   IsFree              the bytes that may be received as anything: a page header's clock, and what follows the address of packet 8/30
--   MayBeReceivedAs     how the 42 bytes of a slot may be received (profile)
use Rattle.std.specs.Prelude.{◌≡◌, ◌⊎◌, ℕ, ◌<◌, ◌≤◌, List, true, slice_index}
use Rattle.ttx_code.specs.Words.{Near}
use Rattle.ttx_packet.specs.Slots.{IsSlot, Kind, IsHeader, IsInfo, is_empty, kind_of}

-- byte x of a packet of this kind may be received as anything (profile)
abbrev pub IsFree : Kind → ℕ → Type 0
IsFree (IsHeader mag) x = 34 ≤ x
IsFree IsInfo x = 2 ≤ x
IsFree _ x = ⊥

-- an empty slot is received empty; in any other slot each byte that is not free has at most one wrong bit (profile)
pub record MayBeReceivedAs (sent received : List ℕ) : Type 0 where
  pub slot : IsSlot received
  pub empty : is_empty sent ≡ true → is_empty received ≡ true
  pub near : (x : ℕ) → x < 42 → IsFree (kind_of sent) x ⊎ Near (slice_index sent x) (slice_index received x)
