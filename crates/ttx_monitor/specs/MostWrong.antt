-- In how many successive transmissions text bytes were wrong (profile).
--
--   SendsItem               a test of slots of a feed: which of them send a row of a page
--   StreakIs                what the streak of a text byte is at the end of a feed
--   HasWrong, IsMostWrong   a streak in the feed; the longest one up to k
use Rattle.std.specs.Prelude.{◌≡◌, ◌⊎◌, ℕ, ◌<◌, ◌≤◌, min, Bool, true, List, length, slice_get, pos, Some}
use Rattle.ttx_page.specs.Pages.{Page}
use Rattle.ttx_page.specs.Streams.{repeated}
use Rattle.ttx_counter.specs.Streaks.{streak_to, IsSentAmong}
use Rattle.ttx_counter.specs.Listening.{item_of}
use Rattle.ttx_counter.specs.Cells.{is_text}
use Rattle.ttx_monitor.specs.Watching.{Watched, wrong_at}

abbrev pub SendsItem : Watched → List (List ℕ) → Page → ℕ → (ℕ → Bool) → Type 0
SendsItem w feed p r sent = IsSentAmong (repeated w.cycle) p.id (item_of r) (pos w.start) (length feed) sent

-- byte x of row r of the page (row 0: the header)
abbrev pub StreakIs : Watched → List (List ℕ) → Page → ℕ → ℕ → (ℕ → Type 0) → Type 0
StreakIs w feed p r x P = (sent : ℕ → Bool) → SendsItem w feed p r sent → P (streak_to sent (wrong_at w feed x) (length feed))

-- a text byte was wrong in n successive transmissions up to some slot
pub record HasWrong (w : Watched) (feed : List (List ℕ)) (n : ℕ) : Type 0 where
  pub index : ℕ
  pub page : Page
  pub row : ℕ
  pub byte : ℕ
  pub slot : ℕ
  pub listed : slice_get w.pages index ≡ Some page
  pub low : row < 25
  pub text : is_text row byte ≡ true
  pub inside : slot ≤ length feed
  pub long : (sent : ℕ → Bool) → SendsItem w feed page row sent → n ≤ streak_to sent (wrong_at w feed byte) slot

pub record IsMostWrong (w : Watched) (feed : List (List ℕ)) (most : ℕ) : Type 0 where
  pub each : (i r x n : ℕ) (p : Page) (sent : ℕ → Bool) → slice_get w.pages i ≡ Some p → r < 25 → is_text r x ≡ true → SendsItem w feed p r sent →
      n ≤ length feed → min w.repeat (streak_to sent (wrong_at w feed x) n) ≤ most
  pub some : (most ≡ 0) ⊎ HasWrong w feed most
