-- The error rule by rows, for receivers that refuse a row with a wrong byte whole (profile).
--
--   refusing                such receivers; they may show a space for a wrong character of a header
--   MayBeLost               no receiver of a page is hurt if the packet is lost
--   Arrives, IsLost         a slot is received with one wrong bit a byte at most, or lost where it may be; a packet is lost
--   KeepsRow                of any k successive transmissions of a row in the feed, one is received whole
--   IsWithinByRows          the rule: each slot arrives, and each row that a viewer sees is kept
use Rattle.std.specs.Prelude.{◌≡◌, ◌⊎◌, ℕ, ◌<◌, ℤ, pos, Bool, true, false, List, [], length, slice_get, slice_index_or, Some}
use Rattle.ttx_packet.specs.Slots.{is_empty}
use Rattle.ttx_packet.specs.Receptions.{MayBeReceivedAs}
use Rattle.ttx_page.specs.Packets.{packet_of}
use Rattle.ttx_page.specs.Pages.{Page, needed}
use Rattle.ttx_page.specs.declared.item.Item.TheVariants.{Row as TheRow}
use Rattle.ttx_page.specs.Streams.{repeated, AreSuccessive}
use Rattle.ttx_page.specs.Receptions.{OneIs}
use Rattle.ttx_receiver.specs.Reading.{IsIgnored}
use Rattle.ttx_rows.specs.RowReceivers.{Manner}
use Rattle.ttx_rows.specs.RowReceptions.{may_be_lost, ArrivesWhole, AreAmong}
use Rattle.ttx_monitor.specs.Watching.{Watched, sent_at}

abbrev pub refusing : Bool → Manner
refusing spaces = record { refuses = true; spaces = spaces; stores = false }

abbrev pub MayBeLost : List Page → List ℕ → Type 0
MayBeLost pages sent = (i : ℕ) (p : Page) → slice_get pages i ≡ Some p → may_be_lost p.id.mag (packet_of sent) ≡ true

abbrev pub Arrives : List Page → List ℕ → List ℕ → Type 0
Arrives pages sent received = MayBeReceivedAs sent received ⊎ (MayBeLost pages sent × IsIgnored (packet_of received))

abbrev pub IsLost : List Page → List ℕ → List ℕ → Type 0
IsLost pages sent received =
    (is_empty sent ≡ false) × (MayBeReceivedAs sent received → ⊥) × MayBeLost pages sent × IsIgnored (packet_of received)

abbrev pub KeepsRow : Watched → List (List ℕ) → Page → ℕ → Type 0
KeepsRow w feed p r =
    (slots : List ℤ) → length slots ≡ w.repeat → AreSuccessive (repeated w.cycle) p.id (TheRow r) slots → AreAmong (pos w.start) (length feed) slots →
    OneIs (ArrivesWhole (repeated w.cycle) (pos w.start) feed) slots

pub record IsWithinByRows (w : Watched) (feed : List (List ℕ)) : Type 0 where
  pub each : (n : ℕ) → n < length feed → Arrives w.pages (sent_at w n) (slice_index_or feed n [])
  pub rows : (i : ℕ) (p : Page) → slice_get w.pages i ≡ Some p → (r : ℕ) → needed p (TheRow r) ≡ true → KeepsRow w feed p r
