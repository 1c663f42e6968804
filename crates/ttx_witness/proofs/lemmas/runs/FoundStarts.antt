-- The starts found among transmissions with rising slots.
use Rattle.std.proofs.Common.{◌≡◌, ℕ, zero, suc, ◌<◌, ℤ, pos, ◌+ℤ◌, ◌<ℤ◌, ◌≤ℤ◌, true, List, [], ◌∷◌, map, Some, unsigned_abs, refl, sym, ap, ◌∙◌}
use Rattle.std.proofs.Common.{subst, arith}
use Rattle.std.specs.List.{All, AllPairs}
use Rattle.std.proofs.lemmas.Int.{ints}
use Rattle.std.proofs.lemmas.Bool.Decides.{nat_tests}
use Rattle.std.proofs.lemmas.Bool.{and_from, cond_both}
use Rattle.ttx_witness.specs.runs.Transmissions.{Transmission, Run, start_of, run_of, windows, extended, further, runs}
use Rattle.ttx_witness.specs.runs.SureStarts.{sure_runs, sure_starts}
use Rattle.ttx_witness.specs.runs.Tracks.{AreInOrder}
use Rattle.ttx_certificate.specs.Entries.{are_slots, rises, rises_above}
use Rattle.ttx_witness.proofs.AllBetween.{slots}
use Rattle.ttx_witness.proofs.lemmas.runs.Rounds.{length_further, starts_of}

-- slots that rise from low on and stay below 65,536
abbrev Climbs : ℤ → List ℤ → Type 0
Climbs low [] = Unit {0}
Climbs low (z ∷ zs) = (low ≤ℤ z) × (z <ℤ pos 65536) × Climbs (z +ℤ pos 1) zs

slots_climb : (low : ℤ) (ts : List Transmission) → All (λ t. low ≤ℤ t.slot) ts → All (λ t. t.slot <ℤ pos 65536) ts →
    AllPairs (λ t u. t.slot <ℤ u.slot) ts → Climbs low (slots ts)
slots_climb low [] l h r = tt
slots_climb low (t ∷ ts) l h r = (
  l zero t (omega arith),
  h zero t (omega arith),
  slots_climb (t.slot +ℤ pos 1) ts (λ k d lt. let up = r zero (suc k) d (omega arith) (omega arith) in omega (arith, ints))
      (λ k d lt. h (suc k) d (omega arith)) (λ i j d lt in_range. r (suc i) (suc j) d (omega arith) (omega arith)),
)

climb_more : (low high : ℤ) (zs : List ℤ) → low ≤ℤ high → Climbs high zs → Climbs low zs
climb_more low high [] le c = tt
climb_more low high (z ∷ zs) le c = ((let h = c.0 in omega (arith, ints)), c.1, c.2)

sure_climb : (low : ℤ) (rs : List Run) → Climbs low (map start_of rs) → Climbs low (map start_of (sure_runs rs))
unfolding sure_runs
sure_climb low [] c = tt
sure_climb low (r ∷ rs) c = cond_both r.sure (r ∷ sure_runs rs) (sure_runs rs) (λ qs. Climbs low (map start_of qs))
    (λ e. (c.0, c.1, sure_climb (r.start +ℤ pos 1) rs c.2))
    (λ e. climb_more low (r.start +ℤ pos 1) (map start_of (sure_runs rs)) (let h = c.0 in omega (arith, ints)) (sure_climb (r.start +ℤ pos 1) rs c.2))

abbrev numbers : List Run → List ℕ
numbers rs = map (λ r. unsigned_abs r.start) rs

are_below : (low : ℤ) (rs : List Run) → pos 0 ≤ℤ low → Climbs low (map start_of rs) → are_slots (numbers rs) ≡ true
are_below low [] z c = refl
are_below low (r ∷ rs) z c =
    let a = c.0 in let b = c.1 in
    let lt : unsigned_abs r.start < 65536 = omega (arith, ints) in
    and_from _ _ (grind (arith, nat_tests)) (are_below (r.start +ℤ pos 1) rs (omega (arith, ints)) c.2)

they_rise : (last : ℕ) (low : ℤ) (rs : List Run) → pos last <ℤ low → Climbs low (map start_of rs) → rises_above (Some last) (numbers rs) ≡ true
they_rise last low [] z c = refl
they_rise last low (r ∷ rs) z c =
    let a = c.0 in
    let lt : last < unsigned_abs r.start = omega (arith, ints) in
    and_from _ _ (grind (arith, nat_tests)) (they_rise (unsigned_abs r.start) (r.start +ℤ pos 1) rs (omega (arith, ints)) c.2)

from_zero : (rs : List Run) → Climbs (pos 0) (map start_of rs) → rises (numbers rs) ≡ true
from_zero [] c = refl
from_zero (r ∷ rs) c = let a = c.0 in they_rise (unsigned_abs r.start) (r.start +ℤ pos 1) rs (omega (arith, ints)) c.2

map_again : (ws : List (List Transmission)) → map start_of (map run_of ws) ≡ map (λ w. (run_of w).start) ws
map_again [] = refl
map_again (w ∷ ws) = ap (λ x. (run_of w).start ∷ x) (map_again ws)

runs_climb : (n k : ℕ) (ts : List Transmission) → Climbs (pos 0) (slots ts) → Climbs (pos 0) (map start_of (runs n k ts))
unfolding further windows
runs_climb n zero [] c = tt
runs_climb n (suc k) [] c = tt
runs_climb n k (t ∷ ts) c =
    subst (Climbs (pos 0)) (sym (map_again (windows (suc k) (extended n k (t ∷ ts)))
    ∙ starts_of k (t ∷ ts) (further n k (t ∷ ts)) (length_further n k (t ∷ ts) (omega arith)))) c

sure_ones : (n k : ℕ) (ts : List Transmission) → AreInOrder ts → Climbs (pos 0) (map start_of (sure_runs (runs n k ts)))
sure_ones n k ts o = sure_climb (pos 0) (runs n k ts) (runs_climb n k ts (slots_climb (pos 0) ts o.low o.high o.rising))

pub starts_below : (n k : ℕ) (ts : List Transmission) → AreInOrder ts → are_slots (sure_starts (runs n k ts)) ≡ true
starts_below n k ts o = are_below (pos 0) (sure_runs (runs n k ts)) (omega (arith, ints)) (sure_ones n k ts o)

pub starts_rise : (n k : ℕ) (ts : List Transmission) → AreInOrder ts → rises (sure_starts (runs n k ts)) ≡ true
starts_rise n k ts o = from_zero (sure_runs (runs n k ts)) (sure_ones n k ts o)
