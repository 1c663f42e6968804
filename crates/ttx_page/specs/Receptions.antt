-- Reception with errors, within the error rule (profile).
--
--   IsTextByte              the bytes of a page's text
--   IsRight                 a byte is received as sent
--   OneIs                   at least one of a list has a property
--   Received                which receptions of a stream are permitted
use Rattle.std.specs.Prelude.{◌≡◌, ◌⊎◌, ℕ, ◌<◌, ◌≤◌, ℤ, pos, ◌+ℤ◌, ◌<ℤ◌, ◌≤ℤ◌, List, [], ◌∷◌, length, slice_index, slice_index_or}
use Rattle.std.specs.List.{AllByRecursion}
use Rattle.ttx_packet.specs.Receptions.{MayBeReceivedAs}
use Rattle.ttx_header.specs.Ids.{Id}
use Rattle.ttx_page.specs.Pages.{Item, TheHead, TheRow, TheLinks}
use Rattle.ttx_page.specs.Streams.{Stream, AreSuccessive}

-- the 40 bytes of a row, and bytes 10 to 33 of a header
abbrev pub IsTextByte : Item → ℕ → Type 0
IsTextByte TheHead x = (10 ≤ x) × (x < 34)
IsTextByte (TheRow r) x = (2 ≤ x) × (x < 42)
IsTextByte TheLinks x = ⊥

-- byte x of slot j is received as sent; `received` are the slots from slot tau on
pub record IsRight (s : Stream) (tau : ℤ) (received : List (List ℕ)) (x : ℕ) (j : ℤ) : Type 0 where
  pub index : ℕ
  pub place : j ≡ tau +ℤ pos index
  pub right : slice_index (slice_index_or received index []) x ≡ slice_index (s j) x

abbrev pub OneIs : (ℤ → Type 0) → List ℤ → Type 0
OneIs P [] = ⊥
OneIs P (j ∷ rest) = P j ⊎ OneIs P rest

-- The error rule: each slot is received with at most one wrong bit in each byte that is not free; and among any `repeat` successive
-- transmissions of a text byte, all within the slots received, at least one is right.
pub record Received (s : Stream) (page : Id) (repeat : ℕ) (tau : ℤ) (received : List (List ℕ)) : Type 0 where
  pub each : (n : ℕ) → n < length received → MayBeReceivedAs (s (tau +ℤ pos n)) (slice_index_or received n [])
  pub one_right : (item : Item) (x : ℕ) → IsTextByte item x → (slots : List ℤ) → length slots ≡ repeat → AreSuccessive s page item slots →
      AllByRecursion (λ j. (tau ≤ℤ j) × (j <ℤ (tau +ℤ pos (length received)))) slots → OneIs (IsRight s tau received x) slots
