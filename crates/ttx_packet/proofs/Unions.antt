-- The union of bytes, bit by bit.
use Rattle.std.proofs.Common.{◌≡◌, ℕ, ◌<◌, ◌==◌, ◌&&◌, true, bit_or, refl}
use Rattle.std.proofs.lemmas.Bool.{agree_below, agree_below_at}

unions : agree_below (λ a. agree_below (λ b. bit_or a b == 0) (λ b. (a == 0) && (b == 0)) 256) (λ _. true) 256 ≡ true
unions = refl

-- a union has no bit set exactly if neither part has one
pub no_bit : (a b : ℕ) → a < 256 → b < 256 → (bit_or a b == 0) ≡ ((a == 0) && (b == 0))
no_bit a b la lb =
    agree_below_at (λ b. bit_or a b == 0) (λ b. (a == 0) && (b == 0)) 256 b
    (agree_below_at (λ a. agree_below (λ b. bit_or a b == 0) (λ b. (a == 0) && (b == 0)) 256) (λ _. true) 256 a unions la) lb
