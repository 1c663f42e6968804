-- Transmissions of one item, and runs of them, as slot numbers (profile). They are given by two relations between the slot h of a header and a
-- slot j: j is a transmission under the header at h (Owned h j), and no permitted receiver misses it (Sure h j).
--
--   IsSentAt, IsSureSent    a slot is a transmission; it is a sure one
--   Successive              rising slots, with no other slot with the property between two of them
--   IsRunFrom, BeginsSureRun, RunEndsBelow  the run of k transmissions from a slot; it is sure; it ends below a slot
use Rattle.std.specs.Prelude.{◌≡◌, ℕ, ℤ, ◌<ℤ◌, List, [], ◌∷◌, length}
use Rattle.std.specs.List.{AllByRecursion}

pub record IsSentAt (Owned : ℤ → ℤ → Type 0) (j : ℤ) : Type 0 where
  pub owner : ℤ
  pub owned : Owned owner j

pub record IsSureSent (Owned Sure : ℤ → ℤ → Type 0) (j : ℤ) : Type 0 where
  pub owner : ℤ
  pub owned : Owned owner j
  pub sure : Sure owner j

abbrev pub Successive : (ℤ → Type 0) → List ℤ → Type 0
Successive P [] = Unit {0}
Successive P (i ∷ []) = P i
Successive P (i ∷ j ∷ rest) = P i × (i <ℤ j) × ((x : ℤ) → i <ℤ x → x <ℤ j → P x → ⊥) × Successive P (j ∷ rest)

-- the run from slot `first`: k successive transmissions
pub record IsRunFrom (Owned : ℤ → ℤ → Type 0) (k : ℕ) (first : ℤ) (rest : List ℤ) : Type 0 where
  pub count : length (first ∷ rest) ≡ k
  pub successive : Successive (IsSentAt Owned) (first ∷ rest)

-- each transmission of the run from slot `first` is sure
pub record BeginsSureRun (Owned Sure : ℤ → ℤ → Type 0) (k : ℕ) (first : ℤ) : Type 0 where
  pub rest : List ℤ
  pub run : IsRunFrom Owned k first rest
  pub all_sure : AllByRecursion (IsSureSent Owned Sure) (first ∷ rest)

-- the run from slot `first` ends below slot `end`
pub record RunEndsBelow (Owned : ℤ → ℤ → Type 0) (k : ℕ) (first end : ℤ) : Type 0 where
  pub rest : List ℤ
  pub run : IsRunFrom Owned k first rest
  pub ends : AllByRecursion (λ j. j <ℤ end) (first ∷ rest)
