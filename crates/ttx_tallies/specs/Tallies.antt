-- How often numbers occur.
--
--   times_among             how often a number occurs in a list
--   times_in                how often it was counted
use Rattle.std.specs.Prelude.{ℕ, ◌==◌, List, count_by, unwrap_or}
use Rattle.std.specs.BTreeMap as tree
use Rattle.std.specs.Ordering.{nat_cmp}

abbrev pub times_among : List ℕ → ℕ → ℕ
times_among numbers number = count_by (λ n. n == number) numbers

abbrev pub times_in : tree.BTreeMap ℕ ℕ → ℕ → ℕ
times_in counts number = unwrap_or (tree.get nat_cmp counts number) 0
