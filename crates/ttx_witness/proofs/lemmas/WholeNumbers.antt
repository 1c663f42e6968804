-- Order and size of whole numbers.
use Rattle.std.proofs.Common.{◌≡◌, ℤ, pos, negsuc, ◌<ℤ◌, ◌≤ℤ◌, int_lt, unsigned_abs, true, refl, arith}
use Rattle.std.proofs.lemmas.Int.{ints}

pub is_lt : (a b : ℤ) → int_lt a b ≡ true → a <ℤ b
is_lt a b e = omega (arith, ints)

pub abs_is : (a : ℤ) → pos 0 ≤ℤ a → pos (unsigned_abs a) ≡ a
abs_is (pos n) h = refl
abs_is (negsuc n) h = absurd (omega (arith, ints))
