-- If no bit is hit, the rule of k is kept.
use Rattle.std.proofs.Common.{◌≡◌, ℕ, ◌≤◌, ℤ, pos, ◌-ℤ◌, false, List, [], ◌∷◌, length, nat_abs, refl, inl, arith}
use Rattle.std.proofs.lemmas.Int.{ints}
use Rattle.ttx_header.specs.Ids.{Id}
use Rattle.ttx_page.specs.Streams.{Stream}
use Rattle.ttx_counter.specs.Keys.{is_hit}
use Rattle.ttx_counter.specs.Streaks.{IsInside, IsRightAmong}
use Rattle.ttx_counter.specs.Rule.{KeepsRule}

none : (x n : ℕ) → is_hit [] x n ≡ false
unfolding is_hit
none x n = refl

right : (start slots x : ℕ) (j : ℤ) → IsInside (pos start) slots j → IsRightAmong (pos start) slots (is_hit [] x) j
right start slots x j inside =
    let from = inside.0 in
    let to = inside.1 in
    record {
      index = nat_abs (j -ℤ pos start);
      below = omega (arith, ints, from, to);
      place = omega (arith, ints, from);
      told = none x (nat_abs (j -ℤ pos start));
    }

pub kept : (s : Stream) (page : Id) (start slots k : ℕ) (keys : List ℕ) → 1 ≤ k → length keys ≡ 0 → KeepsRule s page start slots k keys
kept s page start slots k (key ∷ keys) some none item x text list count successive inside = absurd (omega arith)
kept s page start slots k [] some none item x text [] count successive inside = absurd (omega arith)
kept s page start slots k [] some none item x text (j ∷ rest) count successive inside = inl (right start slots x j inside.0)
