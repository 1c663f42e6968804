-- Counts that stop at the largest u64.
--
--   next_count        the count after one more
--   HasRisen          a fault was counted, or the count had reached its maximum
--   is_write_fault    whether a call of `write` failed
use Rattle.std.specs.Prelude.{◌≡◌, ℕ, ◌+◌, ◌-◌, ◌^◌, ◌<◌, ◌⊎◌, min, Result, Bool, true, not, ◌&&◌, ◌==◌, List, length, Ok, Err}

abbrev pub next_count : ℕ → ℕ
next_count n = min (n + 1) (2 ^ 64 - 1)

-- the count rose, or had reached its maximum
abbrev pub HasRisen : ℕ → ℕ → Type 0
HasRisen old new = (old < new) ⊎ (old ≡ 2 ^ 64 - 1)

-- a write returned an error, or took 0 bytes where there were bytes to write
abbrev pub is_write_fault : {E : Type 0} → Result ℕ E → List ℕ → Bool
is_write_fault (Ok n) bytes = (n == 0) && not (length bytes == 0)
is_write_fault (Err _) bytes = true
