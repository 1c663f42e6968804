-- Maps from the number of a page to one of its headers.
use Rattle.std.specs.Prelude.{◌≡◌, ℕ, ◌<◌, List, Option, Some, None, if◌then◌else◌}
use Rattle.std.specs.BTreeMap.{BTreeMap, get}
use Rattle.std.specs.Ordering.{nat_cmp}
use Rattle.ttx_pages.specs.Keys.{is_header_of}

-- the slot, if it is a header of the page
abbrev pub header_by_key : ℕ → List ℕ → Option (List ℕ)
header_by_key key slot = if is_header_of key slot then Some slot else None

-- each key is the number of a page
abbrev pub ArePageKeys : BTreeMap ℕ (List ℕ) → Type 0
ArePageKeys firsts = (q : ℕ) (slot : List ℕ) → get nat_cmp firsts q ≡ Some slot → q < 37748736
