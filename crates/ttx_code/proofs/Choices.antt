-- What follows from a true disjunction or implication.
use Rattle.std.proofs.Common.{◌≡◌, Bool, true, false, not, ◌||◌}

pub implied : (a b : Bool) → (not a || b) ≡ true → a ≡ true → b ≡ true
implied true b h k = h
implied false b h k = cc

pub either : (a b : Bool) → (a || b) ≡ true → a ≡ false → b ≡ true
either true b h k = cc
either false b h k = h
