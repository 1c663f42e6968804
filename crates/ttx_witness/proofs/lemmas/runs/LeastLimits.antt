-- The least limit within which runs follow one another in time, and the least deadline.
use Rattle.std.proofs.Common.{◌↔◌, ℕ, ◌≤◌, max, ℤ, pos, negsuc, ◌+ℤ◌, ◌-ℤ◌, ◌≤ℤ◌, List, [], ◌∷◌, arith}
use Rattle.std.proofs.lemmas.Int.{ints}
use Rattle.ttx_witness.specs.runs.Transmissions.{Run}
use Rattle.ttx_witness.specs.runs.Repeating.{FollowInTime}
use Rattle.ttx_witness.specs.runs.SureStarts.{above_zero}

-- the greatest distance from an owner to the end of the next run
unfoldable pub widest : Run → List Run → ℕ
widest r [] = 0
widest r (q ∷ rs) = max (above_zero (q.end -ℤ r.owner)) (widest q rs)

above_zero_is : (z : ℤ) (w : ℕ) → (z ≤ℤ pos w) ↔ (above_zero z ≤ w)
above_zero_is (pos a) w = ((λ h. omega (arith, ints)), (λ h. omega (arith, ints)))
above_zero_is (negsuc a) w = ((λ h. omega arith), (λ h. omega (arith, ints)))

pub in_step_widest : (window : ℕ) (r : Run) (rs : List Run) → FollowInTime window r rs ↔ (widest r rs ≤ window)
unfolding widest
in_step_widest window r [] = ((λ h. omega arith), (λ h. tt))
in_step_widest window r (q ∷ rs) =
    let i = in_step_widest window q rs in
    let a = above_zero_is (q.end -ℤ r.owner) window in (
      (λ h. let g : q.end ≤ℤ (r.owner +ℤ pos window) = h.0 in let x = a.0 (omega (arith, ints)) in let y = i.0 h.1 in omega arith),
      (λ h. let x = a.1 (omega arith) in ((let m : q.end ≤ℤ (r.owner +ℤ pos window) = omega (arith, ints) in m), i.1 (omega arith))),
    )
