-- One flipped bit of a byte, computed over all bytes.
use Rattle.std.proofs.Common.{◌≡◌, ℕ, suc, ◌-◌, ◌<◌, ◌≤◌, Bool, true, not, ◌&&◌, leb, eqb, ltb, refl, subst, arith}
use Rattle.std.proofs.lemmas.Bool.{agree_below, agree_below_at, eq-eqb, leb-true, ltb-true, and_parts, both_ways, not-true}
use Rattle.ttx_code.specs.Words.{ones, distance, Near}
use Rattle.ttx_counter.specs.Counters.{flipped}

good : ℕ → ℕ → Bool
good m b = leb (distance b (flipped (suc m) b)) 1 && not (eqb (flipped (suc m) b) b) && ltb (flipped (suc m) b) 256

all_good : agree_below (λ m. agree_below (good m) (λ _. true) 256) (λ _. true) 8 ≡ true
unfolding good ones distance
all_good = refl

pub record IsFlip (b f : ℕ) : Type 0 where
  pub near : Near b f
  pub other : f ≡ b → ⊥
  pub byte : f < 256

good_at : (m b : ℕ) → good m b ≡ true → IsFlip b (flipped (suc m) b)
unfolding good
good_at m b h =
    let w = and_parts _ _ h in
    let v = and_parts _ _ w.0 in
    record { near = leb-true _ _ v.0; other = λ e. both_ways _ (not-true _ v.1) (eq-eqb _ _ e); byte = ltb-true _ _ w.1 }

pub flip : (bit b : ℕ) → 1 ≤ bit → bit ≤ 8 → b < 256 → IsFlip b (flipped bit b)
flip bit b some few lt =
    let m : ℕ = bit - 1 in
    let e : suc m ≡ bit = omega arith in
    subst (λ k. IsFlip b (flipped k b)) e
    (good_at m b (agree_below_at (good m) (λ _. true) 256 b
    (agree_below_at (λ m. agree_below (good m) (λ _. true) 256) (λ _. true) 8 m all_good (omega arith)) lt))
