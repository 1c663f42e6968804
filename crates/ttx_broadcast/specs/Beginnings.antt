-- By how much the clock of a replay is ahead: `ahead_of`.
use Rattle.std.specs.Prelude.{ℕ, ◌%◌, ℤ, pos, ◌+ℤ◌, nat_abs}

-- within a day
abbrev pub ahead_of : ℤ → ℕ
ahead_of offset = nat_abs (offset +ℤ pos 172800) % 86400
