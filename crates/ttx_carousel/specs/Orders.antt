-- Orders of pages, by their indexes.
use Rattle.std.specs.Prelude.{ℕ, ◌<◌, List, length, slice_index}

-- each is below a count
abbrev pub AreBelow : ℕ → List ℕ → Type 0
AreBelow count order = (k : ℕ) → k < length order → slice_index order k < count
