-- An air again, from its log (profile).
--
--   IsDemand, settings_with what was promised; the settings with other lines, and with the moment at which the clock begins
--   Outs, outs_of           the log and the packets
--   Finds, Records, Opens   the first text; what the log records; the house and the edition of the first text
--   log_gives               what the newsroom of a replay answers
--   IsSent, Sends           the log has the settings, and the airing follows
--   Begun, IsReplayed       the first text, its opening, and the newsroom over what the log records; and what is sent
--   Replays                 what `replay` does: it airs, or nothing is sent, and why
use Rattle.std.specs.declared.alloc.Global.{Global}
use Rattle.std.specs.Prelude.{◌≡◌, ◌⊎◌, ℕ, List, [], ◌∷◌, ◌++◌, map, Contains, string_bytes, Option, Result, Ok, Err, Vec, ⊤}
use Rattle.ttx_cycle.specs.Counters.{inner_of}
use Rattle.ttx_send.specs.Airing.{Times}
use Rattle.ttx_send.specs.Times.{Moment}
use Rattle.ttx_air.specs.declared.faults.AirFault.{AirFault}
use Rattle.ttx_air.specs.declared.log.Outputs.{Outputs}
use Rattle.ttx_air.specs.Newsrooms.{Candidate, News, candidate_of}
use Rattle.ttx_air.specs.Airings.{Written, written_of, Logs, scene, Airtime, Airs}
use Rattle.ttx_playout.specs.Schedules.{Edition}
use Rattle.ttx_press.specs.declared.demand.Demand.{Demand}
use Rattle.ttx_press.specs.declared.house.House.{House}
use Rattle.ttx_press.specs.declared.opened_air.Opening.{Opening}
use Rattle.ttx_press.specs.Openings.{IsOpening, IsNoOpening}
use Rattle.ttx_press.specs.Presses.{prints}
use Rattle.ttx_logbook.specs.LogTexts.{PromiseFields, SettingsFields, EntryFields, LogFields, settings_text}
use Rattle.ttx_archive.specs.Archives.{text_of, recorded_of, IsFiled, IsLost, IsLostAt, Recalls}
use Rattle.ttx_archive.specs.declared.filed.FiledText.{FiledText}
use Rattle.ttx_archive.specs.declared.recorded.Recorded.{Recorded}
use Rattle.ttx_broadcast.specs.LogNewsrooms.{left_of, Recounts}
use Rattle.ttx_broadcast.specs.declared.recordings.log_newsroom.LogNewsroom.{LogNewsroom}
use Rattle.ttx_broadcast.specs.declared.recordings.faults.ReplayFault.{ReplayFault}
use Rattle.ttx_broadcast.specs.declared.recordings.faults.ReplayFault.TheVariants as fault
use Rattle.std.specs.Borrow.{Bor}

pub record IsDemand (p : PromiseFields) (d : Demand) : Type 0 where
  pub within : d.within ≡ p.within
  pub repeat : d.repeat ≡ p.repeat
  pub late : d.late ≡ p.late
  pub spread : d.spread ≡ p.spread

abbrev pub settings_with : SettingsFields → ℕ → Moment → SettingsFields
settings_with s lines begin = record {
  promise = s.promise;
  size = record { lines = lines; fields = s.size.fields };
  begin = record { mjd = begin.mjd; second = begin.second };
  clock = s.clock;
}

pub record Outs : Type 0 where
  pub log : Written
  pub packets : Option (List ℕ)

abbrev pub outs_of : {L W : Type 0} → (L → Option (List ℕ)) → (W → Option (List ℕ)) → Outputs L W → Outs
outs_of log packets o = record { log = written_of log o.log; packets = packets (inner_of o.packets) }

abbrev pub Finds : List (List ℕ) → List ℕ → Result (Bor FiledText) ReplayFault → Type 0
Finds archive digest (Ok filed) = IsFiled archive digest (text_of filed.now)
Finds archive digest (Err (fault.Lost lost)) = (lost.now ≡ digest) × IsLost archive digest
Finds archive digest (Err _) = ⊥

-- a text that took over
abbrev pub IsLostLater : List (List ℕ) → List EntryFields → List ℕ → Type 0
IsLostLater archive later digest = (e : EntryFields) × Contains later e × IsLostAt archive e digest

abbrev pub Records : List (List ℕ) → List EntryFields → Result (Vec Recorded Global) ReplayFault → Type 0
Records archive later (Ok records) = Recalls archive later (map recorded_of records.items)
Records archive later (Err (fault.Lost digest)) = IsLostLater archive later digest.now
Records archive later (Err fault.NoMemory) = ⊤
Records archive later (Err _) = ⊥

abbrev pub Opens : Demand → List ℕ → Result Opening ReplayFault → Type 0
Opens d text (Ok o) = IsOpening d text o.house (candidate_of o.first)
Opens d text (Err (fault.Refused words)) = IsNoOpening d text (string_bytes words)
Opens d text (Err fault.NoMemory) = ⊤
Opens d text (Err _) = ⊥

-- before each field what the log records of it, and nothing else
abbrev pub log_gives : LogNewsroom House → Edition → ℕ → News → LogNewsroom House → Type 0
log_gives old on_air field news new = Recounts prints on_air field old new news

abbrev pub airtime_in : SettingsFields → Times → House → Airtime
airtime_in s times house = record { times = times; fields = s.size.fields; receivers = house.receivers }

abbrev pub line_in : SettingsFields → Times → Candidate → List ℕ
line_in s times first = settings_text (settings_with s first.edition.certificate.lines (times 0)) ++ 10 ∷ []

-- the log has the settings, and the airing follows
pub record IsSent (s : SettingsFields) (times : Times) (house : House) (first : Candidate) (old new : LogNewsroom House) (before after : Outs)
    (aired : Result ⊤ AirFault) : Type 0 where
  pub log : Written
  pub settings : Logs before.log log (line_in s times first)
  pub airs : Airs log_gives (airtime_in s times house) first (scene old log before.packets) (scene new after.log after.packets) aired

abbrev pub Sends : SettingsFields → Times → House → Candidate → LogNewsroom House → LogNewsroom House → Outs → Outs → Result ⊤ ReplayFault → Type 0
Sends s times house first old new before after (Ok _) = IsSent s times house first old new before after (Ok tt)
Sends s times house first old new before after (Err (fault.Air f)) = IsSent s times house first old new before after (Err f)
Sends s times house first old new before after (Err fault.NoMemory) = after ≡ before
Sends s times house first old new before after (Err _) = ⊥

-- the first text of the log, its opening, and the newsroom over what the log records
pub record Begun (archive : List (List ℕ)) (l : LogFields) : Type 0 where
  pub text : List ℕ
  pub filed : IsFiled archive l.start.digest text
  pub demand : Demand
  pub asked : IsDemand l.settings.promise demand
  pub house : House
  pub first : Candidate
  pub opening : IsOpening demand text house first
  pub newsroom : LogNewsroom House
  pub press : newsroom.press ≡ house
  pub recalls : Recalls archive l.later (left_of newsroom)

pub record IsReplayed (archive : List (List ℕ)) (l : LogFields) (times : Times) (before after : Outs) (aired : Result ⊤ AirFault) : Type 0 where
  pub begun : Begun archive l
  pub left : LogNewsroom House
  pub sent : IsSent l.settings times begun.house begun.first begun.newsroom left before after aired

-- the archive lacks the first text, or one that took over
abbrev pub IsLostFrom : List (List ℕ) → LogFields → List ℕ → Type 0
IsLostFrom archive l digest = ((digest ≡ l.start.digest) × IsLost archive digest) ⊎ IsLostLater archive l.later digest

-- the first text has no edition
pub record IsNotBegun (archive : List (List ℕ)) (l : LogFields) (words : List ℕ) : Type 0 where
  pub text : List ℕ
  pub filed : IsFiled archive l.start.digest text
  pub demand : Demand
  pub asked : IsDemand l.settings.promise demand
  pub refused : IsNoOpening demand text words

abbrev pub Replays : List (List ℕ) → LogFields → Times → Outs → Outs → Result ⊤ ReplayFault → Type 0
Replays archive l times before after (Ok _) = IsReplayed archive l times before after (Ok tt)
Replays archive l times before after (Err (fault.Air f)) = IsReplayed archive l times before after (Err f)
Replays archive l times before after (Err (fault.Lost digest)) = IsLostFrom archive l digest.now × (after ≡ before)
Replays archive l times before after (Err (fault.Refused words)) = IsNotBegun archive l (string_bytes words) × (after ≡ before)
Replays archive l times before after (Err fault.NoMemory) = after ≡ before
