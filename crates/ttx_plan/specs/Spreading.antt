-- How far pages have taken their places.
--
--   IsSpreadTo              pages that are sent more often than a number, and the first ones that are sent just as often, have their places
--   AreCounted              the packets of each round so far
--   number_of, AreNumbered  the number of a page with its magazine; how many pages have each
use Rattle.std.specs.Prelude.{◌≡◌, ℕ, ◌+◌, ◌*◌, ◌<◌, ◌==◌, List, length, slice_get, slice_index, Some}
use Rattle.std.specs.List.{count_by}
use Rattle.ttx_page.specs.declared.class.Class.{Class}
use Rattle.ttx_source.specs.Services.{Authored}
use Rattle.ttx_plan.specs.Blocks.{Block}
use Rattle.ttx_plan.specs.Spread.{IsAtPlace, packets_so_far}

-- the pages that are sent more often, and those before the index that are sent just as often, are at their places
pub record IsSpreadTo (class : Class) (pages : List Authored) (places : List ℕ) (often index : ℕ) : Type 0 where
  pub more : (at : ℕ) (p : Authored) → slice_get pages at ≡ Some p → often < p.often → IsAtPlace class pages places at p
  pub same : (at : ℕ) (p : Authored) → slice_get pages at ≡ Some p → p.often ≡ often → at < index → IsAtPlace class pages places at p

-- the numbers are the packets of these blocks in the eight rounds
pub record AreCounted (packets : List ℕ) (blocks : List Block) (often index : ℕ) : Type 0 where
  pub eight : length packets ≡ 8
  pub each : (round : ℕ) → round < 8 → slice_index packets round ≡ packets_so_far blocks often index round

abbrev pub number_of : Authored → ℕ
number_of p = p.page.id.mag * 256 + p.page.id.page

-- so many pages have each number
abbrev pub AreNumbered : List ℕ → List Authored → Type 0
AreNumbered numbers pages = (n : ℕ) → n < 2304 → slice_index numbers n ≡ count_by (λ p. number_of p == n) pages
