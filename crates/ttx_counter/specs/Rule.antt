-- The rule of k for bits that are hit, and what is known of it while the slots of a run pass.
--
--   IsCursor                the keys of earlier slots are before a place, all others at it or after it
--   sends_row               whether a slot sends a row of the page
--   KeepsRule               of any k successive transmissions of a text byte inside the run, one is not hit
use Rattle.std.specs.Prelude.{◌≡◌, ℕ, ◌<◌, ◌≤◌, ℤ, pos, Bool, List, length}
use Rattle.std.specs.List.{AllByRecursion}
use Rattle.ttx_header.specs.Ids.{Id}
use Rattle.ttx_page.specs.declared.item.Item.{Item}
use Rattle.ttx_page.specs.Streams.{Stream, AreSuccessive}
use Rattle.ttx_page.specs.Receptions.{IsTextByte, OneIs}
use Rattle.ttx_counter.specs.Keys.{key_at, slot_in, is_hit}
use Rattle.ttx_counter.specs.Streaks.{IsInside, IsRightAmong}
use Rattle.ttx_counter.specs.Listening.{row_from}
use Rattle.ttx_counter.specs.Cells.{is_row}

pub record IsCursor (keys : List ℕ) (n at : ℕ) : Type 0 where
  pub within : at ≤ length keys
  pub before : (i : ℕ) → i < at → slot_in (key_at keys i) < n
  pub after : (i : ℕ) → at ≤ i → i < length keys → n ≤ slot_in (key_at keys i)

abbrev pub sends_row : Id → Stream → ℤ → Bool → ℕ → ℕ → Bool
sends_row page s tau mine r n = is_row r (row_from page s tau mine n)

abbrev pub KeepsRule : Stream → Id → ℕ → ℕ → ℕ → List ℕ → Type 0
KeepsRule s page start slots k keys =
    (item : Item) (x : ℕ) → IsTextByte item x → (list : List ℤ) → length list ≡ k → AreSuccessive s page item list →
    AllByRecursion (IsInside (pos start) slots) list → OneIs (IsRightAmong (pos start) slots (is_hit keys x)) list
