-- The verdict on a feed by rows (profile).
--
--   IsWholeByRows, IsBrokenByRows, IsSlippedByRows, HearsRows       how the reading of a feed ends
--   IsHeardByRows           the feed is within the rule; what is counted of it, and who sees each page
--   start_of, IsRowVerdictOf, IsRowVerdict          the verdict on a feed of these bytes
use Rattle.std.specs.Prelude.{◌≡◌, ◌⊎◌, ℕ, ◌-◌, ◌^◌, ◌<◌, ◌≤◌, min, List, ◌++◌, length, Option, Some, None}
use Rattle.ttx_packet.specs.Slots.{IsSlot}
use Rattle.ttx_page.specs.Pages.{Page}
use Rattle.ttx_cycle.specs.Files.{file_of}
use Rattle.ttx_witness.specs.Coverage.{Certificate, Accepts, limit}
use Rattle.ttx_monitor.specs.Watching.{Watched, watched}
use Rattle.ttx_monitor.specs.FeedVerdicts.{IsFoundIn, BeginsAt}
use Rattle.ttx_row_monitor.specs.RowFeeds.{IsWithinByRows}
use Rattle.ttx_row_monitor.specs.RowStanding.{HasLost, RowStands, IsRowHeard}
use Rattle.ttx_row_monitor.specs.RowStepping.{IsRowShift}
use Rattle.ttx_row_monitor.specs.Laws.{AllReceivedByRows, IsSeenByRowsIn, IsShownByRowsIn}
use Rattle.ttx_row_monitor.specs.declared.breach.RowBreach.{RowBreach}
use Rattle.ttx_row_monitor.specs.declared.feed_verdict.Heard.{Heard}
use Rattle.ttx_row_monitor.specs.declared.feed_verdict.Heard.TheVariants.{End, Broken, Slipped}
use Rattle.ttx_row_monitor.specs.declared.monitor.RowMonitor.{RowMonitor}
use Rattle.ttx_row_monitor.specs.declared.verdict.RowVerdict.{RowVerdict}
use Rattle.ttx_row_monitor.specs.declared.verdict.RowVerdict.TheVariants.{Unlike, Yes, No, Shifted}

-- the feed has these slots, and then less than the bytes of a slot (no feed of 2 ^ 64 - 1 slots has an end)
pub record IsWholeByRows (w : Watched) (bytes : List ℕ) (m : RowMonitor) (rest : ℕ) : Type 0 where
  pub feed : List (List ℕ)
  pub tail : List ℕ
  pub same : bytes ≡ file_of feed ++ tail
  pub ended : ((rest < 42) × (length tail ≡ rest)) ⊎ (2 ^ 64 - 1 ≤ length feed)
  pub stands : RowStands m w feed
  pub within : IsWithinByRows w feed

-- the slots before are within the rule; the feed has not slipped at the next one, which breaks it
pub record IsBrokenByRows (w : Watched) (bytes : List ℕ) (slot : ℕ) (breach : RowBreach) : Type 0 where
  pub feed : List (List ℕ)
  pub received : List ℕ
  pub rest : List ℕ
  pub same : bytes ≡ (file_of feed ++ received) ++ rest
  pub is_slot : IsSlot received
  pub within : IsWithinByRows w feed
  pub in_place : IsRowShift w feed (received ++ rest) received None
  pub how : IsRowHeard w feed received (Some breach)
  pub slot_is : slot ≡ length feed

-- the slots before are within the rule; from the next one on the feed has slipped
pub record IsSlippedByRows (w : Watched) (bytes : List ℕ) (slot by : ℕ) : Type 0 where
  pub feed : List (List ℕ)
  pub received : List ℕ
  pub rest : List ℕ
  pub same : bytes ≡ (file_of feed ++ received) ++ rest
  pub is_slot : IsSlot received
  pub within : IsWithinByRows w feed
  pub how : IsRowShift w feed (received ++ rest) received (Some by)
  pub slot_is : slot ≡ length feed

abbrev pub HearsRows : Watched → List ℕ → RowMonitor → Heard → Type 0
HearsRows w bytes m (End rest) = IsWholeByRows w bytes m rest
HearsRows w bytes m (Broken slot breach) = IsBrokenByRows w bytes slot breach
HearsRows w bytes m (Slipped slot by) = IsSlippedByRows w bytes slot by

-- as IsHeardWhole of the rule by bytes
pub record IsHeardByRows (cycle : List (List ℕ)) (pages : List Page) (c : Certificate) (bytes : List ℕ) (start slots lost rest : ℕ) : Type 0 where
  pub feed : List (List ℕ)
  pub tail : List ℕ
  pub same : bytes ≡ file_of feed ++ tail
  pub ended : ((rest < 42) × (length tail ≡ rest)) ⊎ (2 ^ 64 - 1 ≤ length feed)
  pub within : IsWithinByRows (watched cycle pages c.repeat start) feed
  pub received : AllReceivedByRows (watched cycle pages c.repeat start) feed
  pub slots_are : slots ≡ min (length feed) (2 ^ 64 - 1)
  pub count : ℕ
  pub counted : HasLost (watched cycle pages c.repeat start) feed (length feed) count
  pub lost_are : lost ≡ min count (2 ^ 64 - 1)
  pub seen : Accepts cycle pages c → limit c ≤ length feed → IsSeenByRowsIn (watched cycle pages c.repeat start) feed c
  pub shown : Accepts cycle pages c → IsShownByRowsIn (watched cycle pages c.repeat start) feed c

abbrev pub start_of : RowVerdict → ℕ
start_of (Unlike unlike) = 0
start_of (Yes start slots lost rest) = start
start_of (No start slot breach) = start
start_of (Shifted start slot by count) = start

abbrev pub IsRowVerdictOf : List (List ℕ) → List Page → Certificate → List ℕ → RowVerdict → Type 0
IsRowVerdictOf cycle pages c bytes (Unlike unlike) = ⊥
IsRowVerdictOf cycle pages c bytes (Yes start slots lost rest) = IsHeardByRows cycle pages c bytes start slots lost rest
IsRowVerdictOf cycle pages c bytes (No start slot breach) = IsBrokenByRows (watched cycle pages c.repeat start) bytes slot breach
IsRowVerdictOf cycle pages c bytes (Shifted start slot by count) =
    IsSlippedByRows (watched cycle pages c.repeat start) bytes slot by × (count ≡ length cycle)

abbrev pub IsRowVerdict : List (List ℕ) → List Page → Certificate → Option ℕ → List ℕ → RowVerdict → Type 0
IsRowVerdict cycle pages c named bytes (Unlike unlike) = IsFoundIn cycle bytes (Some unlike)
IsRowVerdict cycle pages c named bytes verdict =
    IsFoundIn cycle bytes None × BeginsAt cycle bytes named (start_of verdict) × IsRowVerdictOf cycle pages c bytes verdict
