-- The text of the as-run log of an air (profile): a line with what was asked for, and a line for each event.
--
--   PromiseFields, SizeFields, BeginFields, ClockFields, SettingsFields     what was asked for
--   keyed_text              a number after a key, and what follows
--   either_text             one of two words, and what follows
--   second_text, ahead_text, clock_text     the second of a day; seconds ahead of UTC; the clock
--   settings_text           the first line
--   StartFields, EventFields, EntryFields   the first text; what happened, and before which field
--   start_text, event_text, entry_text      the second line; another one
--   lines_text              many lines, each ended by 0A
--   LogFields, log_text     a log, and its text
--   Lacks, IsSettings, IsStart, IsEvent, IsEntry, IsLog     what can be read again: numbers in their ranges, no 0A in a line
use Rattle.std.specs.Prelude.{◌≡◌, ℕ, ◌/◌, ◌%◌, ◌+◌, ◌^◌, ◌<◌, ◌≤◌, ◌==◌, ℤ, nat_abs, Bool, true, not, if◌then◌else◌, List, [], ◌∷◌, ◌++◌, codes}
use Rattle.std.specs.List.{list_all}
use Rattle.std.specs.Fmt.{decimal, signed_decimal}

pub record PromiseFields : Type 0 where
  pub within : ℕ
  pub repeat : ℕ
  pub late : Bool
  pub spread : Bool

pub record SizeFields : Type 0 where
  pub lines : ℕ
  pub fields : ℕ

-- the Modified Julian Date and the second of the day, in UTC
pub record BeginFields : Type 0 where
  pub mjd : ℕ
  pub second : ℕ

-- a time zone by its name, or seconds ahead of UTC
pub data ClockFields : Type 0 where
  Zone : List ℕ → ClockFields
  Ahead : ℤ → ClockFields

pub record SettingsFields : Type 0 where
  pub promise : PromiseFields
  pub size : SizeFields
  pub begin : BeginFields
  pub clock : ClockFields

abbrev pub keyed_text : List ℕ → ℕ → ℕ → List ℕ → List ℕ
keyed_text key n mark rest = key ++ (decimal n ++ mark ∷ rest)

abbrev pub either_text : List ℕ → List ℕ → Bool → List ℕ → List ℕ
either_text first second is_first rest = (if is_first then first else second) ++ rest

abbrev pub two_digits : ℕ → List ℕ → List ℕ
two_digits n rest = (48 + n / 10) ∷ (48 + n % 10) ∷ rest

-- HHMMSS
abbrev pub second_text : ℕ → List ℕ
second_text second = two_digits (second / 3600) (two_digits (second / 60 % 60) (two_digits (second % 60) []))

abbrev pub clock_text : ClockFields → List ℕ
clock_text (Zone name) = codes "zone " ++ name
clock_text (Ahead seconds) = codes "ahead " ++ signed_decimal seconds

abbrev pub promise_text : PromiseFields → List ℕ → List ℕ
promise_text p rest =
    keyed_text (codes "air within ") p.within 32 (keyed_text (codes "repeat ") p.repeat 32
    (either_text (codes "late ") (codes "at-once ") p.late (either_text (codes "spread ") (codes "plain ") p.spread rest)))

abbrev pub size_text : SizeFields → List ℕ → List ℕ
size_text s rest = keyed_text (codes "lines ") s.lines 32 (keyed_text (codes "fields ") s.fields 32 rest)

abbrev pub begin_text : BeginFields → List ℕ → List ℕ
begin_text b rest = keyed_text (codes "at ") b.mjd 47 (second_text b.second ++ 32 ∷ rest)

-- numbers are decimal
unfoldable pub settings_text : SettingsFields → List ℕ
settings_text s = promise_text s.promise (size_text s.size (begin_text s.begin (clock_text s.clock)))

-- the first text went on the air: a field, the time that the clock showed, the digest of the text, and words
pub record StartFields : Type 0 where
  pub field : ℕ
  pub time : List ℕ
  pub digest : List ℕ
  pub words : List ℕ

-- a text took over, or was kept off; no text was read; all fields were sent
pub data EventFields : Type 0 where
  Changed : List ℕ → List ℕ → EventFields
  Kept : List ℕ → List ℕ → EventFields
  Unread : List ℕ → EventFields
  End : EventFields

pub record EntryFields : Type 0 where
  pub field : ℕ
  pub time : List ℕ
  pub event : EventFields

abbrev pub marked_text : List ℕ → List ℕ → List ℕ
marked_text digest words = digest ++ 58 ∷ 32 ∷ words

abbrev pub event_text : EventFields → List ℕ
event_text (Changed digest words) = codes "changed " ++ marked_text digest words
event_text (Kept digest words) = codes "kept " ++ marked_text digest words
event_text (Unread words) = codes "kept: " ++ words
event_text End = codes "end"

abbrev pub at_field : ℕ → List ℕ → List ℕ → List ℕ
at_field field time event = keyed_text (codes "field ") field 32 (time ++ 32 ∷ event)

unfoldable pub start_text : StartFields → List ℕ
start_text s = at_field s.field s.time (codes "on air " ++ marked_text s.digest s.words)

unfoldable pub entry_text : EntryFields → List ℕ
entry_text e = at_field e.field e.time (event_text e.event)

abbrev pub lines_text : List EntryFields → List ℕ
lines_text [] = []
lines_text (e ∷ es) = entry_text e ++ 10 ∷ lines_text es

pub record LogFields : Type 0 where
  pub settings : SettingsFields
  pub start : StartFields
  pub later : List EntryFields

abbrev pub log_text : LogFields → List ℕ
log_text l = settings_text l.settings ++ 10 ∷ (start_text l.start ++ 10 ∷ lines_text l.later)

-- no byte is this one
abbrev pub Lacks : ℕ → List ℕ → Type 0
Lacks mark text = list_all (λ b. not (b == mark)) text ≡ true

abbrev pub IsClock : ClockFields → Type 0
IsClock (Zone name) = Unit {0}
IsClock (Ahead seconds) = nat_abs seconds < 86400

pub record IsSettings (s : SettingsFields) : Type 0 where
  pub within : (1 ≤ s.promise.within) × (s.promise.within ≤ 1000000)
  pub repeat : (1 ≤ s.promise.repeat) × (s.promise.repeat ≤ 8)
  pub lines : s.size.lines < 2 ^ 32
  pub fields : s.size.fields < 2 ^ 32
  pub mjd : s.begin.mjd < 100000
  pub second : s.begin.second < 86400
  pub clock : IsClock s.clock
  pub line : Lacks 10 (settings_text s)

pub record IsStart (s : StartFields) : Type 0 where
  pub field : s.field < 2 ^ 32
  pub time : Lacks 32 s.time
  pub digest : Lacks 58 s.digest
  pub line : Lacks 10 (start_text s)

abbrev pub IsEvent : EventFields → Type 0
IsEvent (Changed digest words) = Lacks 58 digest
IsEvent (Kept digest words) = Lacks 58 digest
IsEvent (Unread words) = Unit {0}
IsEvent End = Unit {0}

pub record IsEntry (e : EntryFields) : Type 0 where
  pub field : e.field < 2 ^ 32
  pub time : Lacks 32 e.time
  pub event : IsEvent e.event
  pub line : Lacks 10 (entry_text e)

abbrev pub AreEntries : List EntryFields → Type 0
AreEntries [] = Unit {0}
AreEntries (e ∷ es) = IsEntry e × AreEntries es

pub record IsLog (l : LogFields) : Type 0 where
  pub settings : IsSettings l.settings
  pub start : IsStart l.start
  pub later : AreEntries l.later
