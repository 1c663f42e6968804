-- Powers of ten.
use Rattle.std.proofs.Common.{ℕ, zero, suc, ◌^◌, ◌<◌, ◌≤◌, arith}

power_le : (i : ℕ) → i < 10 → 10 ^ i ≤ 1000000000
power_le zero lt = omega arith
power_le (suc zero) lt = omega arith
power_le (suc (suc zero)) lt = omega arith
power_le (suc (suc (suc zero))) lt = omega arith
power_le (suc (suc (suc (suc zero)))) lt = omega arith
power_le (suc (suc (suc (suc (suc zero))))) lt = omega arith
power_le (suc (suc (suc (suc (suc (suc zero)))))) lt = omega arith
power_le (suc (suc (suc (suc (suc (suc (suc zero))))))) lt = omega arith
power_le (suc (suc (suc (suc (suc (suc (suc (suc zero)))))))) lt = omega arith
power_le (suc (suc (suc (suc (suc (suc (suc (suc (suc zero))))))))) lt = omega arith
power_le (suc (suc (suc (suc (suc (suc (suc (suc (suc (suc i)))))))))) lt = absurd (omega arith)

-- a number of fewer than ten digits
pub number_fits : (n i : ℕ) → n < 10 ^ i → i < 10 → n < 1000000000
number_fits n i small lt = let p = power_le i lt in omega arith
