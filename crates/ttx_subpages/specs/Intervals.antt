-- How long a viewer waits for each subpage of a number (profile).
--
--   ComeAgainWithin         after each header of a page with the number the next one of the same page comes within so many slots
--   IsLongest, IsIntervalOf in no fewer slots; None where a page with the number has no header
--   longer_of               the longer of two intervals, where 0 says that there is no header
--   IsAmong, HasUnsent, IsLongestBelow, LongestBelow        the same for the first pages of the list
use Rattle.std.specs.Prelude.{◌≡◌, ◌⊎◌, ℕ, ◌<◌, ◌≤◌, true, ◌==◌, if◌then◌else◌, nat_lt, List, slice_get, Option, Some, None, MatchOption}
use Rattle.ttx_page.specs.Pages.{Page}
use Rattle.ttx_page.specs.declared.selection.Selection.TheVariants.{Exact}
use Rattle.ttx_page.specs.Streams.{Stream}
use Rattle.ttx_subpages.specs.Numbers.{has_number}
use Rattle.ttx_subpages.specs.WholeBlocks.{IsSubpage}
use Rattle.ttx_subpages.specs.Stays.{HasNone, ComesAgainWithin, IsGreatestInterval}

abbrev pub ComeAgainWithin : Stream → List Page → ℕ → ℕ → ℕ → Type 0
ComeAgainWithin s pages mag number n = (p : Page) → IsSubpage pages mag number p → ComesAgainWithin s (Exact p.id) n

-- each page with the number has a header, and they come again within n slots and no fewer
pub record IsLongest (s : Stream) (pages : List Page) (mag number n : ℕ) : Type 0 where
  pub sent : (p : Page) → IsSubpage pages mag number p → HasNone s (Exact p.id) → ⊥
  pub within : ComeAgainWithin s pages mag number n
  pub least : (m : ℕ) → ComeAgainWithin s pages mag number m → n ≤ m

pub record IsUnsent (s : Stream) (pages : List Page) (mag number : ℕ) : Type 0 where
  pub page : Page
  pub subpage : IsSubpage pages mag number page
  pub none : HasNone s (Exact page.id)

abbrev pub IsIntervalOf : Stream → List Page → ℕ → ℕ → Option ℕ → Type 0
IsIntervalOf s pages mag number interval = MatchOption interval (IsUnsent s pages mag number) (IsLongest s pages mag number)

abbrev pub longer_of : Option ℕ → ℕ → Option ℕ
longer_of None n = None
longer_of (Some m) n = if n == 0 then None else (if nat_lt m n then Some n else Some m)

-- one of the first n pages of the list, with the number
pub record IsAmong (pages : List Page) (n mag number : ℕ) (p : Page) : Type 0 where
  pub index : ℕ
  pub before : index < n
  pub listed : slice_get pages index ≡ Some p
  pub named : has_number mag number p ≡ true

pub record HasUnsent (s : Stream) (pages : List Page) (n mag number : ℕ) : Type 0 where
  pub page : Page
  pub among : IsAmong pages n mag number page
  pub none : HasNone s (Exact page.id)

pub record IsLongestBelow (s : Stream) (pages : List Page) (n mag number most : ℕ) : Type 0 where
  pub sent : (p : Page) → IsAmong pages n mag number p → HasNone s (Exact p.id) → ⊥
  pub within : (p : Page) → IsAmong pages n mag number p → ComesAgainWithin s (Exact p.id) most
  pub needed : (most ≡ 0) ⊎ ((p : Page) × IsAmong pages n mag number p × IsGreatestInterval s (Exact p.id) most)

abbrev pub LongestBelow : Stream → List Page → ℕ → ℕ → ℕ → Option ℕ → Type 0
LongestBelow s pages n mag number most = MatchOption most (HasUnsent s pages n mag number) (IsLongestBelow s pages n mag number)
