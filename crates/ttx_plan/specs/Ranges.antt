-- How often a page is sent in a cycle, and its place among the rounds.
use Rattle.std.specs.Prelude.{◌≡◌, ℕ, ◌/◌, ◌%◌, ◌<◌, ◌≤◌, List, slice_get, slice_index_or, Some}
use Rattle.ttx_source.specs.Services.{Authored}

-- 1, 2, 4 or 8 times: the divisors of eight rounds
pub record IsOften (often : ℕ) : Type 0 where
  pub some : 1 ≤ often
  pub most : often ≤ 8
  pub divides : 8 % often ≡ 0

-- the place of each page, 0 if the list is shorter, is in range
abbrev pub ArePlaces : List ℕ → List Authored → Type 0
ArePlaces places pages = (i : ℕ) (page : Authored) → slice_get pages i ≡ Some page → slice_index_or places i 0 < 8 / page.often
