-- The first packet 8/30 of a cycle as the program finds it, and what it says of it.
--
--   IsFirstInfo, TellsInfo  a packet 8/30 and its slot, before which no slot has one; the first packet 8/30
--   MinusZero               the slot of one with an offset that no text says
--   OkTrue                  the answer is yes
use Rattle.std.specs.Prelude.{◌≡◌, ℕ, ◌<◌, List, [], length, Bool, true, slice_index_or, Option, Some, None, Result, Ok, Err}
use Rattle.ttx_extract.specs.FirstPackets.{slot_info, first_info}
use Rattle.ttx_extract.specs.declared.infos.FoundInfo.{FoundInfo}

pub record IsFirstInfo (slots : List (List ℕ)) (found : FoundInfo) : Type 0 where
  pub within : found.slot < length slots
  pub here : slot_info (slice_index_or slots found.slot []) ≡ Some found.info
  pub none_before : (n : ℕ) → n < found.slot → slot_info (slice_index_or slots n []) ≡ None

abbrev pub TellsInfo : List (List ℕ) → Option FoundInfo → Type 0
TellsInfo slots None = first_info slots ≡ None
TellsInfo slots (Some found) = (first_info slots ≡ Some found.info) × IsFirstInfo slots found

abbrev pub MinusZero : Option FoundInfo → ℕ → Type 0
MinusZero None slot = ⊥
MinusZero (Some found) slot = (slot ≡ found.slot) × (found.info.halves ≡ 0) × (found.info.west ≡ true)

abbrev pub OkTrue : {E : Type 0} → Result Bool E → Type 0
OkTrue (Ok b) = b ≡ true
OkTrue (Err e) = ⊥
