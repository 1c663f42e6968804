-- Logs, and texts that are none.
--
--   log_of                  a log as a record
--   IsNoSettings, IsNoStart, IsNoEntry      the text begins with no such line
--   AreUnread, IsUnread     which line is not understood
use Rattle.std.specs.Prelude.{◌≡◌, ◌≢◌, ◌⊎◌, ℕ, ◌+◌, ◌<◌, List, ◌∷◌, ◌++◌, length, map}
use Rattle.ttx_logbook.specs.LogTexts.{SettingsFields, StartFields, EntryFields, LogFields, settings_text, start_text, entry_text, lines_text, IsSettings, IsStart, IsEntry, AreEntries}
use Rattle.ttx_logbook.specs.Views.{settings_of, start_of, entry_of}
use Rattle.ttx_logbook.specs.declared.log.Log.{Log}
use Rattle.ttx_logbook.specs.declared.log.LogFault.{LogFault}
use Rattle.ttx_logbook.specs.declared.log.LogFault.TheVariants.{Line, NoMemory}

abbrev pub log_of : Log → LogFields
log_of l = record { settings = settings_of l.settings; start = start_of l.start; later = map entry_of l.later.items }

abbrev pub IsNoSettings : List ℕ → Type 0
IsNoSettings text = (s : SettingsFields) (more : List ℕ) → IsSettings s → text ≢ settings_text s ++ 10 ∷ more

abbrev pub IsNoStart : List ℕ → Type 0
IsNoStart text = (s : StartFields) (more : List ℕ) → IsStart s → text ≢ start_text s ++ 10 ∷ more

abbrev pub IsNoEntry : List ℕ → Type 0
IsNoEntry text = (e : EntryFields) (more : List ℕ) → IsEntry e → text ≢ entry_text e ++ 10 ∷ more

-- line n begins none; the lines before it are understood
pub record IsNoEntryAt (text : List ℕ) (n : ℕ) : Type 0 where
  pub entries : List EntryFields
  pub rest : List ℕ
  pub are : AreEntries entries
  pub text_is : text ≡ lines_text entries ++ rest
  pub line : n ≡ 3 + length entries
  pub some : 0 < length rest
  pub none : IsNoEntry rest

abbrev pub AreUnread : List ℕ → LogFault → Type 0
AreUnread text (Line n) = IsNoEntryAt text n
AreUnread text NoMemory = Unit {0}

pub record IsStarted (P : List ℕ → Type 0) (text : List ℕ) : Type 0 where
  pub settings : SettingsFields
  pub rest : List ℕ
  pub are_settings : IsSettings settings
  pub text_is : text ≡ settings_text settings ++ 10 ∷ rest
  pub then : P rest

pub record IsOpened (P : List ℕ → Type 0) (text : List ℕ) : Type 0 where
  pub start : StartFields
  pub rest : List ℕ
  pub is_start : IsStart start
  pub text_is : text ≡ start_text start ++ 10 ∷ rest
  pub then : P rest

-- the first line; the second one; or another one
abbrev pub IsNoLogAt : List ℕ → ℕ → Type 0
IsNoLogAt text n =
    ((n ≡ 1) × IsNoSettings text)
    ⊎ (((n ≡ 2) × IsStarted IsNoStart text)
    ⊎ IsStarted (IsOpened (λ rest. IsNoEntryAt rest n)) text)

abbrev pub IsUnread : List ℕ → LogFault → Type 0
IsUnread text (Line n) = IsNoLogAt text n
IsUnread text NoMemory = Unit {0}
