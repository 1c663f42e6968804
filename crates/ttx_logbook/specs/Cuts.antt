-- Cuts of a text.
--
--   after                   what follows a key
--   cut                     what stands before the first such byte, and after it
use Rattle.std.specs.Prelude.{ℕ, ◌==◌, List, length, drop, Option, Some, None, if◌then◌else◌}
use Rattle.std.specs.List.{starts_with, position_or_len, before_first, after_first}

unfoldable pub after : List ℕ → List ℕ → Option (List ℕ)
after key text = if starts_with (λ a b. a == b) text key then Some (drop (length key) text) else None

unfoldable pub cut : ℕ → List ℕ → Option (List ℕ × List ℕ)
cut mark text =
    if position_or_len (λ b. b == mark) text == length text then None
    else Some (before_first (λ b. b == mark) text, after_first (λ b. b == mark) text)
