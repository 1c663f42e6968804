-- A newsroom over the text of a service, which an author changes (profile).
--
--   Reading, reading_of     a text that was read, or why none was
--   Made, made_of           what a press makes of a text
--   mark_of                 the mark of a text in the log: a space and its digest in hexadecimal
--   lacking, news_made      the answer if memory ran out, and to what was made of a text
--   Tries                   the answer to a text that is new
--   IsUnreadNews, IsUnread  the answer if no text was read; it is reported once
--   IsKept                  a new text is kept, so that it is not tried again
--   IsRead, Finds, Looks    the answer to a text; to what is read now; and at most once a second
--   IsNew                   a newsroom while the edition of a first text is on the air
use Rattle.std.specs.declared.alloc.Global.{Global}
use Rattle.std.specs.Prelude.{◌≡◌, ◌≢◌, ◌⊎◌, ℕ, ◌+◌, ◌-◌, ◌^◌, ◌<◌, ◌≤◌, min, true, false, if◌then◌else◌, List, [], ◌∷◌, codes, string_bytes, Result, Ok, Err, Vec}
use Rattle.hex.specs.Hex.{encode_lower}
use Rattle.sha2.specs.Sha256.{sha256}
use Rattle.ttx_cycle.specs.declared.faults.TextFault.{TextFault}
use Rattle.ttx_cycle.specs.declared.faults.TextFault.TheVariants.{Read, TooLong, NoMemory}
use Rattle.ttx_playout.specs.Schedules.{Edition}
use Rattle.ttx_playout.specs.Takeovers.{edition_of}
use Rattle.ttx_playout.specs.declared.edition.Edition.{Edition as EditionValue}
use Rattle.ttx_air.specs.Newsrooms.{News, Nothing, Next, Refused}
use Rattle.ttx_air.specs.declared.press.PressFault.{PressFault}
use Rattle.ttx_air.specs.declared.press.PressFault.TheVariants as fault
use Rattle.ttx_air.specs.declared.text_newsroom.TextNewsroom.{TextNewsroom}

abbrev pub Reading : Type 0
Reading = Result (List ℕ) TextFault

abbrev pub reading_of : Result (Vec ℕ Global) TextFault → Reading
reading_of (Ok text) = Ok text.items
reading_of (Err fault) = Err fault

-- an edition; or a refusal, in words; or memory ran out
pub data Made : Type 0 where
  Printed : Edition → Made
  Spoilt : List ℕ → Made
  Short : Made

abbrev pub made_of : Result EditionValue PressFault → Made
made_of (Ok edition) = Printed (edition_of edition)
made_of (Err (fault.Refused words)) = Spoilt (string_bytes words)
made_of (Err fault.NoMemory) = Short

abbrev pub mark_of : List ℕ → List ℕ
mark_of digest = 32 ∷ encode_lower digest

abbrev pub lacking : List ℕ → News
lacking mark = Refused mark (codes "out of memory")

abbrev pub news_made : List ℕ → Made → News
news_made mark (Printed edition) = Next (record { edition = edition; mark = mark })
news_made mark (Spoilt words) = Refused mark words
news_made mark Short = lacking mark

-- what the press makes of it, unless there is no memory for its mark
abbrev pub Tries : {P : Type 0} → (P → Edition → List ℕ → Made → P → Type 0) → P → Edition → List ℕ → News → P → Type 0
Tries makes old on_air text news new =
    ((made : Made) × makes old on_air text made new × (news ≡ news_made (mark_of (sha256 text)) made))
    ⊎ ((new ≡ old) × (news ≡ lacking []))

-- the words, unless there is no memory for them
abbrev pub IsUnreadNews : TextFault → News → Type 0
IsUnreadNews Read news = (news ≡ Refused [] (codes "the text cannot be read")) ⊎ (news ≡ lacking [])
IsUnreadNews TooLong news = (news ≡ Refused [] (codes "the text is too long")) ⊎ (news ≡ lacking [])
IsUnreadNews NoMemory news = news ≡ lacking []

abbrev pub IsUnread : {S P : Type 0} → TextFault → TextNewsroom S P → TextNewsroom S P → News → Type 0
IsUnread fault old new news =
    ((old.unread ≡ true) × (new ≡ old) × (news ≡ Nothing))
    ⊎ ((old.unread ≡ false) × (new ≡ record old { unread = true }) × IsUnreadNews fault news)

-- the text is kept
abbrev pub IsKept : {S P : Type 0} → List ℕ → TextNewsroom S P → TextNewsroom S P → Type 0
IsKept text old new = (new.tried.items ≡ text) × (new ≡ record old { unread = false; tried = new.tried; press = new.press })

-- The same text as before, by its bytes, is not tried again. Another one counts as tried, also if there was no memory for its edition or its mark.
abbrev pub IsRead : {S P : Type 0} → (P → Edition → List ℕ → Made → P → Type 0) → Edition → List ℕ → TextNewsroom S P → TextNewsroom S P → News → Type 0
IsRead makes on_air text old new news =
    ((text ≡ old.tried.items) × (new ≡ record old { unread = false }) × (news ≡ Nothing))
    ⊎ ((text ≢ old.tried.items) × IsKept text old new × Tries makes old.press on_air text news new.press)

abbrev pub FindsBy : {S P : Type 0} → (P → Edition → List ℕ → Made → P → Type 0) → Edition → Reading → TextNewsroom S P → TextNewsroom S P → News → Type 0
FindsBy makes on_air (Ok text) old new news = IsRead makes on_air text old new news
FindsBy makes on_air (Err fault) old new news = IsUnread fault old new news

-- what the source holds now
abbrev pub Finds : {S P : Type 0} → (S → Reading → S → Type 0) → (P → Edition → List ℕ → Made → P → Type 0) → Edition →
    TextNewsroom S P → TextNewsroom S P → News → Type 0
Finds {S} reads makes on_air old new news =
    (reading : Reading) × ((source : S) × reads old.source reading source × FindsBy makes on_air reading (record old { source = source }) new news)

-- not before the next second: 50 fields later, up to the largest usize
abbrev pub Looks : {S P : Type 0} → (S → Reading → S → Type 0) → (P → Edition → List ℕ → Made → P → Type 0) → Edition → ℕ →
    TextNewsroom S P → TextNewsroom S P → News → Type 0
Looks reads makes on_air field old new news =
    ((field < old.next) × (new ≡ old) × (news ≡ Nothing))
    ⊎ ((old.next ≤ field) × Finds reads makes on_air (record old { next = min (field + 50) (2 ^ 64 - 1) }) new news)

pub record IsNew {S P : Type 0} (source : S) (press : P) (first : List ℕ) (newsroom : TextNewsroom S P) : Type 0 where
  pub own_source : newsroom.source ≡ source
  pub own_press : newsroom.press ≡ press
  pub tried : newsroom.tried.items ≡ first
  pub unread : newsroom.unread ≡ false
  pub next : newsroom.next ≡ 0
