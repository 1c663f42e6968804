-- The starts of all sure runs, and the least limit within which they follow one another.
--
--   sure_runs, sure_starts  the runs that are sure, and their starts
--   above_zero              a distance in slots; 0 for a negative one
--   IsFound                 the starts and the spread of a list of runs
--   Spread, spread_of       how far apart the sure runs so far are: the end of the first, the owner of the last, and the
--                           greatest distance from an owner to the end of the next run
--   width                   the greatest distance, round the cycle: the least limit that is enough
use Rattle.std.specs.Prelude.{◌≡◌, ℕ, max, ℤ, pos, negsuc, ◌+ℤ◌, ◌-ℤ◌, if◌then◌else◌, List, [], ◌∷◌, map, Option, Some, None, unsigned_abs}
use Rattle.ttx_witness.specs.runs.Transmissions.{Run}
pub use Rattle.ttx_witness.specs.declared.runs.sure_starts.Spread.{Spread}

unfoldable pub sure_runs : List Run → List Run
sure_runs [] = []
sure_runs (r ∷ rs) = if r.sure then r ∷ sure_runs rs else sure_runs rs

abbrev pub sure_starts : List Run → List ℕ
sure_starts rs = map (λ r. unsigned_abs r.start) (sure_runs rs)

abbrev pub above_zero : ℤ → ℕ
above_zero (pos a) = a
above_zero (negsuc a) = 0

abbrev pub widened : Option Spread → Run → Spread
widened None r = record { first_end = r.end; previous = r.owner; widest = 0 }
widened (Some s) r = record { first_end = s.first_end; previous = r.owner; widest = max s.widest (above_zero (r.end -ℤ s.previous)) }

abbrev pub spread_after : Option Spread → Run → Option Spread
spread_after s r = if r.sure then Some (widened s r) else s

unfoldable pub spread_of : Option Spread → List Run → Option Spread
spread_of s [] = s
spread_of s (r ∷ rs) = spread_of (spread_after s r) rs

pub record IsFound (rs : List Run) (named : List ℕ) (width : Option Spread) : Type 0 where
  pub starts : named ≡ sure_starts rs
  pub spread : width ≡ spread_of None rs

-- the greatest distance from an owner to the end of the next run, round the cycle of n slots
abbrev pub width : ℕ → Spread → ℕ
width n s = max s.widest (above_zero ((s.first_end +ℤ pos n) -ℤ s.previous))
