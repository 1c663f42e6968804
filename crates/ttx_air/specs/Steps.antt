-- The steps of an airing, from the opening to the next slot.
--
--   IsOpening, IsOpened     a first edition is on the air, or why it is not
--   IsTaking, IsKept, IsSettled     a next edition takes over, or does not; one of both, with its line
--   IsEnded                 the end of a period, of what is on the air
--   SoFar                   the head-end so far, with its log
--   SentMore                slots that go out in one piece
use Rattle.std.specs.Prelude.{◌≡◌, ◌⊎◌, ℕ, true, false, codes, List, [], ◌++◌, length, map, Result, Ok, Err}
use Rattle.ttx_cycle.specs.Files.{file_of}
use Rattle.ttx_send.specs.Times.{Moment}
use Rattle.ttx_send.specs.Airing.{Times, at_time}
use Rattle.ttx_playout.specs.Schedules.{Edition, Showing, taken}
use Rattle.ttx_playout.specs.Takeovers.{current_of, at_of, held_of, HasSent, IsStart}
use Rattle.ttx_playout.specs.declared.state.OnAir.{OnAir}
use Rattle.ttx_playout.specs.declared.late_change.LateChange.{LateChange}
use Rattle.ttx_air.specs.declared.airtime.Receivers.{Receivers}
use Rattle.ttx_air.specs.declared.faults.AirFault.{AirFault}
use Rattle.ttx_air.specs.Newsrooms.{Candidate, News}
use Rattle.ttx_air.specs.Judgements.{is_yes, IsServed, IsRefused}
use Rattle.ttx_air.specs.Endings.{Ending, taken_by, current_after, held_after, later_after, IsEnding}
use Rattle.ttx_air.specs.LogLines.{Tick, tick, reason_line, first_line, changed_line, kept_line, lines_of}
use Rattle.ttx_air.specs.Airings.{Written, Logs, IsAired}
use Rattle.ttx_air.specs.Entries.{Adds}

pub record IsOpening (receivers : Receivers) (t : Tick) (first : Candidate) (old new : Written) (o : OnAir) : Type 0 where
  pub on_air : HasSent [] o first.edition []
  pub start : IsStart first.edition (Ok o)
  pub served : IsServed receivers first.edition
  pub line : Adds old.faults old new (first_line t first.mark first.edition)

abbrev pub IsOpened : Receivers → Tick → Candidate → Written → Written → Result OnAir AirFault → Type 0
IsOpened receivers t first old new (Ok o) = IsOpening receivers t first old new o
IsOpened receivers t first old new (Err fault) = IsRefused receivers first.edition fault × (new ≡ old)

pub record IsTaking (next : Edition) (old new : OnAir) : Type 0 where
  pub current : current_of new ≡ next
  pub held : held_of new ≡ 0
  pub between : at_of new ≡ 0
  pub sent : (slots : List (List ℕ)) (first : Edition) (later : List Showing) → HasSent slots old first later →
      HasSent slots new first (taken later next)

-- the log says why, or that there was no memory for that
abbrev pub IsKept : Candidate → LateChange → ℕ → Tick → Written → Written → Type 0
IsKept next verdict started t log log' =
    Adds started log log' (kept_line t next.mark (reason_line verdict)) ⊎ Adds started log log' (kept_line t next.mark (codes "out of memory\n"))

abbrev pub IsSettled : LateChange → Candidate → ℕ → Tick → OnAir → OnAir → Written → Written → Type 0
IsSettled verdict next started t old new log log' =
    ((is_yes verdict ≡ true) × IsTaking next.edition old new × Adds started log log' (changed_line t (current_of old) next))
    ⊎ ((is_yes verdict ≡ false) × (new ≡ old) × IsKept next verdict started t log log')

pub record IsEnded (receivers : Receivers) (ending : Ending) (old new : OnAir) : Type 0 where
  pub is_ending : IsEnding receivers (current_of old) (held_of old) ending
  pub current : current_of new ≡ current_after (current_of old) (taken_by ending)
  pub held : held_of new ≡ held_after (held_of old) (taken_by ending)
  pub between : at_of new ≡ 0
  pub sent : (slots : List (List ℕ)) (first : Edition) (later : List Showing) → HasSent slots old first later →
      HasSent slots new first (later_after later (taken_by ending))

-- the endings, the slots, and the log with the lines of these endings
pub record SoFar {N : Type 0} (gives : N → Edition → ℕ → News → N → Type 0) (receivers : Receivers) (times : Times) (line_count started : ℕ)
    (first : Candidate) (before : N) (begin : Written) (o : OnAir) (news : N) (log : Written) (past : List Ending) (slots : List (List ℕ)) : Type 0 where
  pub aired : IsAired gives receivers first.edition before o news past slots
  pub lines : line_count ≡ first.edition.certificate.lines
  pub faults : begin.faults ≡ started
  pub logged : Logs begin log (first_line (tick times 0) first.mark first.edition ++ lines_of times first.edition past)

-- Since then so many slots more were sent, at one moment, and these are their bytes.
pub record SentMore {N : Type 0} (gives : N → Edition → ℕ → News → N → Type 0) (receivers : Receivers) (times : Times) (lines started : ℕ)
    (first : Candidate) (before : N) (begin : Written) (o : OnAir) (news : N) (log : Written) (slots : List (List ℕ)) (moment : Moment) (count : ℕ) (bytes : List ℕ) : Type 0 where
  pub past : List Ending
  pub more : List (List ℕ)
  pub so_far : SoFar gives receivers times lines started first before begin o news log past (slots ++ more)
  pub long : length more ≡ count
  pub are_bytes : bytes ≡ file_of (map (at_time moment) more)
