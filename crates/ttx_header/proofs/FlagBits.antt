-- A control bit is set where its flag is contained.
use Rattle.std.proofs.Common.{◌≡◌, ℕ, zero, suc, ◌<◌, ◌*◌, ◌^◌, ◌==◌, arith, bit_and}
use Rattle.std.proofs.lemmas.Nat.Bits.{and_pow}
use Rattle.std.proofs.lemmas.Bool.Decides.{nat_tests}
use Rattle.std.specs.Int.{from_bool}
use Rattle.ttx_code.specs.Words.{bit}

flag_of_bit : (b p : ℕ) → b < 2 → 0 < p → (b * p == p) ≡ (b == 1)
flag_of_bit zero p l s = grind (arith, nat_tests)
flag_of_bit (suc zero) p l s = grind (arith, nat_tests)
flag_of_bit (suc (suc b)) p l s = absurd (omega arith)

bit_of_flag : (b p : ℕ) → b < 2 → 0 < p → from_bool (b * p == p) ≡ b
bit_of_flag zero p l s = grind (arith, nat_tests)
bit_of_flag (suc zero) p l s = grind (arith, nat_tests)
bit_of_flag (suc (suc b)) p l s = absurd (omega arith)

pub flag_is_bit : (n k : ℕ) → 0 < 2 ^ k → (bit_and n (2 ^ k) == 2 ^ k) ≡ (bit n k == 1)
flag_is_bit n k s = rw (and_pow n k) (flag_of_bit (bit n k) (2 ^ k) (omega arith) s)

pub bit_is_flag : (n k : ℕ) → 0 < 2 ^ k → from_bool (bit_and n (2 ^ k) == 2 ^ k) ≡ bit n k
bit_is_flag n k s = rw (and_pow n k) (bit_of_flag (bit n k) (2 ^ k) (omega arith) s)
