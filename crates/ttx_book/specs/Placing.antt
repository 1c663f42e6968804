-- Where the packets of each page are in a cycle, given the page of each slot.
--
--   gap                     how many slots come before the first slot of the page
--   place_from              the first slot of the page from a slot on, or the end
--   IsPlaceIndex            the first slot of each page from a slot on, and for each slot from there on the next slot of its page
use Rattle.std.specs.Prelude.{◌≡◌, ℕ, suc, ◌+◌, ◌<◌, ◌≤◌, ◌==◌, List, [], ◌∷◌, drop, get_or, length, unwrap_or, if◌then◌else◌}
use Rattle.std.specs.BTreeMap.{BTreeMap, get}
use Rattle.std.specs.Ordering.{nat_cmp}

abbrev pub gap : ℕ → List ℕ → ℕ
gap key [] = 0
gap key (page ∷ pages) = if page == key then 0 else suc (gap key pages)

abbrev pub place_from : ℕ → ℕ → List ℕ → ℕ
place_from at key pages = at + gap key (drop at pages)

pub record IsPlaceIndex (pages : List ℕ) (at : ℕ) (first : BTreeMap ℕ ℕ) (next : List ℕ) : Type 0 where
  pub size : length next ≡ length pages
  pub begins : (key : ℕ) → unwrap_or (get nat_cmp first key) (length pages) ≡ place_from at key pages
  pub goes_on : (k : ℕ) → at ≤ k → k < length pages → get_or next k 0 ≡ place_from (k + 1) (get_or pages k 0) pages
