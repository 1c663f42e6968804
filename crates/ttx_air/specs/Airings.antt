-- What a head-end puts on the air while a newsroom hands out editions.
--
--   timed_from, air_of      slots that go out one after another, each with the time of its field; their bytes
--   Written, written_of     a counted writer's faults and contents
--   Logs                    bytes were added to a log, or a write to it failed
--   Scene                   the newsroom, the log and the packets, before an airing and after it
--   IsAired                 the head-end so far: the endings, the newsroom's answers, and the slots
--   Aired                   what an airing leaves behind
--   Airtime, airtime_of, Airs       what `air` does with a clock, so many fields and these receivers
use Rattle.std.specs.Prelude.{◌≡◌, ◌⊎◌, ℕ, ◌+◌, ◌*◌, ◌/◌, ◌<◌, suc, List, [], ◌∷◌, ◌++◌, length, take, Option, Result, Ok, Err}
use Rattle.std.specs.Io.KnownBytes.{Appends}
use Rattle.ttx_cycle.specs.Counters.{inner_of, faults_of}
use Rattle.ttx_cycle.specs.declared.counted.Counted.{Counted}
use Rattle.ttx_cycle.specs.Counts.{HasRisen}
use Rattle.ttx_cycle.specs.Files.{file_of}
use Rattle.ttx_send.specs.Airing.{Times, at_time, field_time}
use Rattle.ttx_playout.specs.Schedules.{Edition}
use Rattle.ttx_playout.specs.Takeovers.{current_of, at_of, held_of, HasSent}
use Rattle.ttx_playout.specs.declared.state.OnAir.{OnAir}
use Rattle.ttx_air.specs.declared.airtime.Airtime.{Airtime as AirtimeValue}
use Rattle.ttx_air.specs.declared.airtime.Receivers.{Receivers}
use Rattle.ttx_air.specs.declared.faults.AirFault.{AirFault}
use Rattle.ttx_air.specs.declared.faults.AirFault.TheVariants.{Start, NeverShown, TooFar, Write}
use Rattle.ttx_air.specs.Newsrooms.{Candidate, News}
use Rattle.ttx_air.specs.Judgements.{IsServed, IsRefused}
use Rattle.ttx_air.specs.Endings.{Ending, playout_after, AreEndings, Answers}
use Rattle.ttx_air.specs.LogLines.{tick, first_line, lines_of, end_line}

-- slot number k is sent in field k / lines
abbrev pub timed_from : Times → ℕ → ℕ → List (List ℕ) → List (List ℕ)
timed_from times lines k [] = []
timed_from times lines k (slot ∷ slots) = at_time (field_time times (k / lines)) slot ∷ timed_from times lines (suc k) slots

-- the bytes of the slots, in fields of as many lines as the certificate says, with the time of each field
abbrev pub air_of : Times → Edition → List (List ℕ) → List ℕ
air_of times first slots = file_of (timed_from times first.certificate.lines 0 slots)

-- how many writes failed, and what was written, where it is known
pub record Written : Type 0 where
  pub faults : ℕ
  pub bytes : Option (List ℕ)

abbrev pub written_of : {T : Type 0} → (T → Option (List ℕ)) → Counted T → Written
written_of contents writer = record { faults = faults_of writer; bytes = contents (inner_of writer) }

-- The bytes were added, and no write failed; or one failed, and nothing is said of the bytes.
abbrev pub Logs : Written → Written → List ℕ → Type 0
Logs old new bytes = ((new.faults ≡ old.faults) × Appends old.bytes new.bytes bytes) ⊎ HasRisen old.faults new.faults

-- the newsroom, the log, and the packets that were written
pub record Scene (N : Type 0) : Type 0 where
  pub newsroom : N
  pub log : Written
  pub packets : Option (List ℕ)

abbrev pub scene : {N : Type 0} → N → Written → Option (List ℕ) → Scene N
scene newsroom log packets = record { newsroom = newsroom; log = log; packets = packets }

-- The head-end so far, since it began with the first edition: the endings, the newest one first, are right, and hold the newsroom's answers; the
-- slots that it sent are a stretch of what the schedule of these endings sends.
pub record IsAired {N : Type 0} (gives : N → Edition → ℕ → News → N → Type 0) (receivers : Receivers) (first : Edition) (before : N) (o : OnAir)
    (news : N) (past : List Ending) (slots : List (List ℕ)) : Type 0 where
  pub sent : HasSent slots o first (playout_after first past).later
  pub current : current_of o ≡ (playout_after first past).current
  pub held : held_of o ≡ (playout_after first past).held
  pub place : (playout_after first past).slots + at_of o ≡ length slots
  pub endings : AreEndings receivers first past
  pub answers : Answers gives first before past news

-- what an airing leaves behind: the endings, the slots, what is on the air at its end, and the log, with its last lines
pub record Aired {N : Type 0} (gives : N → Edition → ℕ → News → N → Type 0) (receivers : Receivers) (times : Times) (first : Candidate)
    (before after : Scene N) (last : List ℕ) : Type 0 where
  pub past : List Ending
  pub slots : List (List ℕ)
  pub on_air : OnAir
  pub served : IsServed receivers first.edition
  pub aired : IsAired gives receivers first.edition before.newsroom on_air after.newsroom past slots
  pub logged : Logs before.log after.log ((first_line (tick times 0) first.mark first.edition ++ lines_of times first.edition past) ++ last)

-- what the clock shows, how many fields are sent, and for whom
pub record Airtime : Type 0 where
  pub times : Times
  pub fields : ℕ
  pub receivers : Receivers

abbrev pub airtime_of : {C : Type 0} → (C → Times) → AirtimeValue C → Airtime
airtime_of shows a = record { times = shows a.clock; fields = a.fields; receivers = a.receivers }

-- All fields went out, or exactly the first `written` bytes of some slots; or the first edition is not put on the air, and nothing changes.
module _ {N : Type 0} (gives : N → Edition → ℕ → News → N → Type 0) (airtime : Airtime) (first : Candidate) (before after : Scene N) where
  abbrev pub Airs : Result (Unit {0}) AirFault → Type 0
  Airs (Ok _) = (a : Aired gives airtime.receivers airtime.times first before after (end_line (tick airtime.times airtime.fields)))
      × (length a.slots ≡ airtime.fields * first.edition.certificate.lines)
      × Appends before.packets after.packets (air_of airtime.times first.edition a.slots)
  Airs (Err (Write fault)) = (a : Aired gives airtime.receivers airtime.times first before after [])
      × (fault.written < length (air_of airtime.times first.edition a.slots))
      × Appends before.packets after.packets (take fault.written (air_of airtime.times first.edition a.slots))
  Airs (Err (Start fault)) = IsRefused airtime.receivers first.edition (Start fault) × (after ≡ before)
  Airs (Err (NeverShown page slot)) = IsRefused airtime.receivers first.edition (NeverShown page slot) × (after ≡ before)
  Airs (Err (TooFar gap)) = IsRefused airtime.receivers first.edition (TooFar gap) × (after ≡ before)
