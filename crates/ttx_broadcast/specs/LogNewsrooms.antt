-- A newsroom over what a log records (profile).
--
--   left_of                 the records that are left
--   IsNotDue, IsDue         nothing is recorded of this field; what is, once
--   Tells                   the answer that is recorded
--   Recounts                the answer before a field
use Rattle.std.specs.Prelude.{◌≡◌, ◌≢◌, ◌⊎◌, ℕ, List, [], ◌∷◌, drop, map, Option, Some, None}
use Rattle.ttx_air.specs.Newsrooms.{News, Nothing, Refused}
use Rattle.ttx_air.specs.TextNewsrooms.{Made, lacking, Tries}
use Rattle.ttx_playout.specs.Schedules.{Edition}
use Rattle.ttx_archive.specs.Archives.{ToldFields, Changed, Kept, Unread, RecordedFields, recorded_of, told_of}
use Rattle.ttx_archive.specs.declared.recorded.Told.{Told}
use Rattle.ttx_broadcast.specs.declared.recordings.log_newsroom.LogNewsroom.{LogNewsroom}

abbrev pub left_of : {P : Type 0} → LogNewsroom P → List RecordedFields
left_of n = drop n.next (map recorded_of n.records.items)

-- the next record is of another field
abbrev pub IsNotDue : ℕ → List RecordedFields → Type 0
IsNotDue field [] = Unit {0}
IsNotDue field (r ∷ records) = r.field ≢ field

abbrev pub IsDue : {P : Type 0} → ℕ → LogNewsroom P → LogNewsroom P → Option Told → Type 0
IsDue field old new None = (new ≡ old) × IsNotDue field (left_of old)
IsDue field old new (Some told) = (new.press ≡ old.press) × (left_of old ≡ record { field = field; told = told_of told } ∷ left_of new)

-- The press makes an edition of the text; or the words are those of the log, unless there is no memory for them.
abbrev pub Tells : {P : Type 0} → (P → Edition → List ℕ → Made → P → Type 0) → Edition → ToldFields → P → P → News → Type 0
Tells makes on_air (Changed text) old new news = Tries makes old on_air text news new
Tells makes on_air (Kept digest words) old new news = (new ≡ old) × ((news ≡ Refused (32 ∷ digest) words) ⊎ (news ≡ lacking []))
Tells makes on_air (Unread words) old new news = (new ≡ old) × ((news ≡ Refused [] words) ⊎ (news ≡ lacking []))

-- the next record, before its field; before another one, nothing
abbrev pub Recounts : {P : Type 0} → (P → Edition → List ℕ → Made → P → Type 0) → Edition → ℕ → LogNewsroom P → LogNewsroom P → News → Type 0
Recounts makes on_air field old new news =
    (IsNotDue field (left_of old) × (new ≡ old) × (news ≡ Nothing))
    ⊎ ((told : ToldFields) × (left_of old ≡ record { field = field; told = told } ∷ left_of new)
    × Tells makes on_air told old.press new.press news)
