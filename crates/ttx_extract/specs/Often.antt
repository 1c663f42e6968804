-- How often a page is sent that has so many headers (profile).
use Rattle.std.specs.Prelude.{ℕ, if◌then◌else◌, nat_le}

-- the most of 1, 2, 4 and 8 times that aren't more than the headers
abbrev pub often_for : ℕ → ℕ
often_for n = if nat_le 8 n then 8 else if nat_le 4 n then 4 else if nat_le 2 n then 2 else 1
