-- Slots of a stream by their distance from one of them.
use Rattle.std.proofs.Common.{◌≡◌, ◌⊎◌, ℕ, ◌<◌, ℤ, pos, ◌+ℤ◌, ◌-ℤ◌, ◌<ℤ◌, ◌≤ℤ◌, nat_abs, inl, inr, arith}
use Rattle.std.proofs.lemmas.Int.{ints, by_lt_z}

pub offset : (a h : ℤ) → a ≤ℤ h → (k : ℕ) × (h ≡ a +ℤ pos k)
offset a h le = (nat_abs (h -ℤ a), omega (arith, ints))

pub offset_lt : (a : ℤ) (i j : ℕ) → (a +ℤ pos i) <ℤ (a +ℤ pos j) → i < j
offset_lt a i j h = omega (arith, ints)

pub cases_ltz : (a b : ℤ) → (a <ℤ b) ⊎ (b ≤ℤ a)
cases_ltz a b = by_lt_z a b (λ h. inl h) (λ h. inr h)
