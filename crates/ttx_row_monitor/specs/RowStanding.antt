-- The feed that a row monitor has taken.
--
--   HasLost                 how many slots of a feed were lost where they may be
--   RowStands               a row monitor after a feed
--   IsTornRow               this slot sends a row of which, if the slots before are within the rule, k successive transmissions have not come
--                           whole
--   IsRowHeard              what a row monitor returns for a slot that comes after a feed
use Rattle.std.specs.Prelude.{◌≡◌, ◌⊎◌, ℕ, zero, suc, ◌-◌, ◌^◌, ◌<◌, min, pos, ◌+ℤ◌, true, List, [], ◌∷◌, ◌++◌, length, map, slice_get, slice_index_or, Option, Some, None}
use Rattle.ttx_page.specs.Pages.{Page, needed}
use Rattle.ttx_page.specs.declared.item.Item.TheVariants.{Row as TheRow}
use Rattle.ttx_page.specs.Streams.{repeated, IsTransmission}
use Rattle.ttx_page.specs.Views.{page_of}
use Rattle.ttx_monitor.specs.Watching.{Watched, sent_at}
use Rattle.ttx_monitor.specs.Breaches.{IsSlotJudged}
use Rattle.ttx_monitor.specs.Standing.{Stands}
use Rattle.ttx_row_monitor.specs.RowFeeds.{Arrives, IsLost, KeepsRow, IsWithinByRows}
use Rattle.ttx_row_monitor.specs.Flags.{AreFlags}
use Rattle.ttx_row_monitor.specs.Muting.{AreMuted}
use Rattle.ttx_row_monitor.specs.declared.breach.RowBreach.{RowBreach}
use Rattle.ttx_row_monitor.specs.declared.breach.RowBreach.TheVariants.{Slot, Row}
use Rattle.ttx_row_monitor.specs.declared.monitor.RowMonitor.{RowMonitor}

unfoldable pub HasLost : Watched → List (List ℕ) → ℕ → ℕ → Type 0
HasLost w feed zero c = c ≡ 0
HasLost w feed (suc n) c =
    (IsLost w.pages (sent_at w n) (slice_index_or feed n []) × ((b : ℕ) × (c ≡ suc b) × HasLost w feed n b))
    ⊎ ((IsLost w.pages (sent_at w n) (slice_index_or feed n []) → ⊥) × HasLost w feed n c)

pub record RowStands (m : RowMonitor) (w : Watched) (feed : List (List ℕ)) : Type 0 where
  pub muted : List (List ℕ)
  pub are_muted : AreMuted w feed muted
  pub stands : Stands m.monitor w muted
  pub pages : map page_of m.pages.now ≡ w.pages
  pub flags : AreFlags w.cycle w.pages m.flags.items
  pub count : ℕ
  pub lost : HasLost w feed (length feed) count
  pub lost_is : m.lost ≡ min count (2 ^ 64 - 1)

pub record IsTornRow (w : Watched) (feed : List (List ℕ)) (slot : List ℕ) (page row : ℕ) : Type 0 where
  pub listed : page < length w.pages
  pub needed : (p : Page) → slice_get w.pages page ≡ Some p → needed p (TheRow row) ≡ true
  pub sent : (p : Page) → slice_get w.pages page ≡ Some p → IsTransmission (repeated w.cycle) p.id (TheRow row) (pos w.start +ℤ pos (length feed))
  pub broken : IsWithinByRows w feed → (p : Page) → slice_get w.pages page ≡ Some p → KeepsRow w (feed ++ slot ∷ []) p row → ⊥

abbrev pub IsRowHeard : Watched → List (List ℕ) → List ℕ → Option RowBreach → Type 0
IsRowHeard w feed slot None = Arrives w.pages (sent_at w (length feed)) slot
IsRowHeard w feed slot (Some (Slot breach)) =
    (Arrives w.pages (sent_at w (length feed)) slot → ⊥) × IsSlotJudged (sent_at w (length feed)) slot (Some breach)
IsRowHeard w feed slot (Some (Row page row)) = Arrives w.pages (sent_at w (length feed)) slot × IsTornRow w feed slot page row
