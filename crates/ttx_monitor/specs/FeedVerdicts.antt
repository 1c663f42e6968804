-- The verdict on a feed (profile).
--
--   IsFoundIn               what its first period, or what there is of it, is recognised as
--   BeginsAt                the slot of the cycle with which the feed begins: the one that is named, or the one that is found
--   IsHeardWhole            the feed is within the error rule; what is counted of it, and who sees each page
--   start_of, IsVerdictOf   the start that a verdict names, and what it says
--   StartsAt                the start by the first slots of a feed
--   IsFeedVerdict           the verdict on a feed of these bytes
use Rattle.std.specs.Prelude.{◌≡◌, ◌⊎◌, ℕ, ◌-◌, ◌^◌, ◌<◌, ◌≤◌, min, List, ◌++◌, length, Option, Some, None}
use Rattle.ttx_page.specs.Pages.{Page}
use Rattle.ttx_cycle.specs.Files.{file_of}
use Rattle.ttx_witness.specs.Coverage.{Certificate, Accepts, limit}
use Rattle.ttx_recognition.specs.Recognition.{judged, IsRecognised}
use Rattle.ttx_recognition.specs.declared.form.Unlike as recognition
use Rattle.ttx_monitor.specs.Watching.{watched, IsWithin}
use Rattle.ttx_monitor.specs.Feeds.{IsBroken, IsSlipped}
use Rattle.ttx_monitor.specs.FirstPeriods.{IsFirstPeriod}
use Rattle.ttx_monitor.specs.Laws.{IsSeenIn}
use Rattle.ttx_monitor.specs.Starting.{IsBestStart}
use Rattle.ttx_monitor.specs.Totals.{wrong_bytes, IsLongestStreak}
use Rattle.ttx_monitor.specs.declared.verdict.FeedVerdict.{FeedVerdict}
use Rattle.ttx_monitor.specs.declared.verdict.FeedVerdict.TheVariants.{Unlike, Yes, No, Shifted}

abbrev pub IsFoundIn : List (List ℕ) → List ℕ → Option recognition.Unlike → Type 0
IsFoundIn cycle bytes found = (head : List (List ℕ)) × IsFirstPeriod cycle bytes head × IsRecognised (judged (file_of head)) found

-- by the first slots of the feed
abbrev pub StartsAt : List (List ℕ) → List (List ℕ) → Option ℕ → ℕ → Type 0
StartsAt cycle head (Some named) start = start ≡ named
StartsAt cycle head None start = IsBestStart cycle head start

abbrev pub BeginsAt : List (List ℕ) → List ℕ → Option ℕ → ℕ → Type 0
BeginsAt cycle bytes (Some named) start = start ≡ named
BeginsAt cycle bytes None start = (head : List (List ℕ)) × IsFirstPeriod cycle bytes head × IsBestStart cycle head start

-- The feed has these slots, and then less than the 42 bytes of a slot (no feed of 2 ^ 64 - 1 slots has an end). If the cycle is accepted
-- with the certificate and the feed reaches the deadline, each permitted receiver of it shows each page.
pub record IsHeardWhole (cycle : List (List ℕ)) (pages : List Page) (c : Certificate) (bytes : List ℕ) (start slots wrong streak rest : ℕ)
    : Type 0 where
  pub feed : List (List ℕ)
  pub tail : List ℕ
  pub same : bytes ≡ file_of feed ++ tail
  pub ended : ((rest < 42) × (length tail ≡ rest)) ⊎ (2 ^ 64 - 1 ≤ length feed)
  pub within : IsWithin (watched cycle pages c.repeat start) feed
  pub slots_are : slots ≡ min (length feed) (2 ^ 64 - 1)
  pub wrong_are : wrong ≡ min (wrong_bytes (watched cycle pages c.repeat start) feed (length feed)) (2 ^ 64 - 1)
  pub streak_is : IsLongestStreak (watched cycle pages c.repeat start) feed streak
  pub seen : Accepts cycle pages c → limit c ≤ length feed → IsSeenIn (watched cycle pages c.repeat start) feed c

abbrev pub start_of : FeedVerdict → ℕ
start_of (Unlike unlike) = 0
start_of (Yes start slots wrong streak rest) = start
start_of (No start slot breach) = start
start_of (Shifted start slot by count) = start

-- the verdict on a feed of packets, for the start that it names
abbrev pub IsVerdictOf : List (List ℕ) → List Page → Certificate → List ℕ → FeedVerdict → Type 0
IsVerdictOf cycle pages c bytes (Unlike unlike) = ⊥
IsVerdictOf cycle pages c bytes (Yes start slots wrong streak rest) = IsHeardWhole cycle pages c bytes start slots wrong streak rest
IsVerdictOf cycle pages c bytes (No start slot breach) = IsBroken (watched cycle pages c.repeat start) bytes slot breach
IsVerdictOf cycle pages c bytes (Shifted start slot by count) =
    IsSlipped (watched cycle pages c.repeat start) bytes slot by × (count ≡ length cycle)

abbrev pub IsFeedVerdict : List (List ℕ) → List Page → Certificate → Option ℕ → List ℕ → FeedVerdict → Type 0
IsFeedVerdict cycle pages c named bytes (Unlike unlike) = IsFoundIn cycle bytes (Some unlike)
IsFeedVerdict cycle pages c named bytes verdict =
    IsFoundIn cycle bytes None × BeginsAt cycle bytes named (start_of verdict) × IsVerdictOf cycle pages c bytes verdict
