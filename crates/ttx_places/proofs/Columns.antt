-- Columns, counted from the left.
use Rattle.std.proofs.Common.{◌≡◌, ℕ, suc, ◌+◌, ◌≤◌, Bool, true, false, ◌==◌, if◌then◌else◌, List, [], ◌∷◌, refl, arith}
use Rattle.std.specs.List.{list_any}
use Rattle.ttx_places.specs.Positions.{is_line_feed, begins_character, how_many, last_line, column_after}

-- the column after a text that begins at this column
abbrev pub ends : ℕ → List ℕ → ℕ
ends column text = if list_any is_line_feed text then column_after text else column + how_many begins_character text

pub last_whole : (text : List ℕ) → list_any is_line_feed text ≡ false → last_line text ≡ text
last_whole [] none = refl
last_whole (byte ∷ text) none = rw none

many_by : (test : ℕ → Bool) (byte : ℕ) (text : List ℕ) (holds : Bool) → test byte ≡ holds
    → how_many test (byte ∷ text) ≡ (if test byte then 1 else 0) + how_many test text
many_by test byte text true holds = rw holds (omega arith)
many_by test byte text false holds = rw holds (omega arith)

pub many_next : (test : ℕ → Bool) (byte : ℕ) (text : List ℕ) → how_many test (byte ∷ text) ≡ (if test byte then 1 else 0) + how_many test text
many_next test byte text = many_by test byte text (test byte) refl

abbrev pub next_column : ℕ → ℕ → ℕ
next_column column byte = if byte == 10 then 1 else column + (if begins_character byte then 1 else 0)

step_by : (column byte : ℕ) (text : List ℕ) (feed any : Bool) → (byte == 10) ≡ feed → list_any is_line_feed text ≡ any
    → ends (next_column column byte) text ≡ ends column (byte ∷ text)
step_by column byte text true true feed any = rw (feed, any)
step_by column byte text true false feed none = rw (feed, none, last_whole text none) (omega arith)
step_by column byte text false true other any = rw (other, any)
step_by column byte text false false other none = let more = many_next begins_character byte text in rw (other, none) (omega (arith, more))

pub ends_step : (column byte : ℕ) (text : List ℕ) → ends (next_column column byte) text ≡ ends column (byte ∷ text)
ends_step column byte text = step_by column byte text (byte == 10) (list_any is_line_feed text) refl refl

pub at_most_one : (holds : Bool) → (if holds then 1 else 0) ≤ 1
at_most_one true = omega arith
at_most_one false = omega arith

pub next_within : (column byte : ℕ) → next_column column byte ≤ suc column
next_within column byte = within (is_line_feed byte) (begins_character byte)
  where
    within : (feed begins : Bool) → (if feed then 1 else column + (if begins then 1 else 0)) ≤ suc column
    within true begins = omega arith
    within false true = omega arith
    within false false = omega arith
