-- To a receiver, a row that is refused or lost is like one with one wrong bit in each byte: it stores nothing of it. So a feed is
-- within the rule by rows if and only if the same feed with such rows in place of torn and lost ones is within the rule by bytes.
--
--   flipped                 a byte with its lowest bit wrong
--   IsMutedAs               what replaces a slot
--   AreMuted                the same for each slot of a feed
use Rattle.std.specs.Prelude.{bit_xor, ◌≡◌, ◌↔◌, ℕ, ◌<◌, ◌≤◌, pos, ◌+ℤ◌, Bool, true, false, List, [], length, slice_index, slice_index_or}
use Rattle.ttx_packet.specs.Slots.{IsSlot}
use Rattle.ttx_packet.specs.Receptions.{MayBeReceivedAs}
use Rattle.ttx_page.specs.Pages.{Page}
use Rattle.ttx_rows.specs.RowReceptions.{IsWhole}
use Rattle.ttx_monitor.specs.Watching.{Watched, sent_at}
use Rattle.ttx_row_monitor.specs.RowFeeds.{Arrives}
use Rattle.ttx_row_monitor.specs.Flags.{IsFlag}

abbrev pub flipped : ℕ → ℕ
flipped byte = bit_xor byte 1

pub record IsMutedAs (pages : List Page) (flag : Bool) (sent received muted : List ℕ) : Type 0 where
  pub slot : IsSlot muted
  pub may : Arrives pages sent received → MayBeReceivedAs sent muted
  pub arrives : MayBeReceivedAs sent muted → Arrives pages sent received
  pub whole : Arrives pages sent received → flag ≡ true → (x : ℕ) → 2 ≤ x → x < 42 →
      (slice_index muted x ≡ slice_index sent x) ↔ IsWhole sent received
  pub right : Arrives pages sent received → flag ≡ false → (x : ℕ) → x < 42 → slice_index muted x ≡ slice_index sent x
  pub strange : (Arrives pages sent received → ⊥) → muted ≡ received

-- slot n of the feed
pub record IsMutedSlot (w : Watched) (n : ℕ) (received muted : List ℕ) : Type 0 where
  pub flag : Bool
  pub flag_is : IsFlag w.cycle w.pages (pos w.start +ℤ pos n) flag
  pub muted_as : IsMutedAs w.pages flag (sent_at w n) received muted

pub record AreMuted (w : Watched) (feed muted : List (List ℕ)) : Type 0 where
  pub size : length muted ≡ length feed
  pub each : (n : ℕ) → n < length feed → IsMutedSlot w n (slice_index_or feed n []) (slice_index_or muted n [])
