-- What one call adds to the log: `Adds`.
use Rattle.std.specs.Prelude.{◌≡◌, ℕ, List, ◌++◌}
use Rattle.ttx_air.specs.Airings.{Written, Logs}

-- these bytes more were added, whatever was added since the start
pub record Adds (started : ℕ) (old new : Written) (bytes : List ℕ) : Type 0 where
  pub further : (begin : Written) (noted : List ℕ) → begin.faults ≡ started → Logs begin old noted → Logs begin new (noted ++ bytes)
