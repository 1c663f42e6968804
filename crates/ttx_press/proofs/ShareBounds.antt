-- A share in proportion leaves enough for both.
use Rattle.std.proofs.Common.{◌≡◌, ◌≤◌, ℕ, ◌+◌, ◌-◌, ◌*◌, ◌/◌, subst, arith}
use Rattle.std.proofs.Math.Nat.{div-le_of_le-mul, mul-le-mul_right}
use Rattle.std.proofs.lemmas.Nat.{le-div}

products : (l g r : ℕ) → (l + g + r) * g ≤ (l + g) * (g + r)
products l g r = omega arith

pub share_leaves : (w l g : ℕ) → l + g ≤ w → l + w * g / (l + g) ≤ w
share_leaves w l g le =
    let r = w - (l + g) in
    let is_w : l + g + r ≡ w = omega (arith, le) in
    let is_rest : g + r ≡ w - l = omega (arith, le) in
    let less : w * g ≤ (l + g) * (w - l) = subst (λ n. n * g ≤ (l + g) * (w - l)) is_w (subst (λ n. (l + g + r) * g ≤ (l + g) * n) is_rest (products l g r)) in
    let most = div-le_of_le-mul (l + g) less in
    omega (arith, le, most)

pub share_is_enough : (w l g : ℕ) → 1 ≤ l → l + g ≤ w → g ≤ w * g / (l + g)
share_is_enough w l g some le =
    let more = mul-le-mul_right g le in
    let less : g * (l + g) ≤ w * g = omega (arith, more) in
    le-div g (w * g) (l + g) (omega (arith, some)) less
