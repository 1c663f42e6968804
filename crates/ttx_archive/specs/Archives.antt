-- Texts by their digests, and what a log records (profile).
--
--   text_of, digest_of      the bytes of a filed text; the SHA-256 of a text in hexadecimal
--   IsFiled, IsLost         a text of the archive with this digest; there is none
--   ToldFields, RecordedFields, recorded_of     what is recorded of the end of a period
--   IsToldOf, Recalls       what a line of a log records; many lines
--   IsLostAt, IsLostIn      the archive lacks a text that took over
--   IsRecalled, IsAdded     what is returned for a line, and added to the records before
use Rattle.std.specs.Prelude.{◌≡◌, ◌≢◌, ◌⊎◌, ℕ, List, [], ◌∷◌, ◌++◌, Contains, Option, Some, None, Result, Ok, Err}
use Rattle.hex.specs.Hex.{encode_lower}
use Rattle.sha2.specs.Sha256.{sha256}
use Rattle.ttx_logbook.specs.LogTexts.{EntryFields, EventFields}
use Rattle.ttx_logbook.specs.LogTexts as log
use Rattle.ttx_archive.specs.declared.filed.FiledText.{FiledText}
use Rattle.ttx_archive.specs.declared.recorded.Told.{Told}
use Rattle.ttx_archive.specs.declared.recorded.Told.TheVariants as told
use Rattle.ttx_archive.specs.declared.recorded.Recorded.{Recorded}
use Rattle.ttx_archive.specs.declared.recalled_log.RecallFault.{RecallFault}
use Rattle.ttx_archive.specs.declared.recalled_log.RecallFault.TheVariants.{Lost, NoMemory}

abbrev pub text_of : FiledText → List ℕ
text_of filed = filed.text.items

abbrev pub digest_of : List ℕ → List ℕ
digest_of text = encode_lower (sha256 text)

abbrev pub IsFiled : List (List ℕ) → List ℕ → List ℕ → Type 0
IsFiled archive digest text = Contains archive text × (digest_of text ≡ digest)

abbrev pub IsLost : List (List ℕ) → List ℕ → Type 0
IsLost archive digest = (text : List ℕ) → Contains archive text → digest_of text ≢ digest

-- this text took over; one with this digest was kept off, and why; no text was read, and why
pub data ToldFields : Type 0 where
  Changed : List ℕ → ToldFields
  Kept : List ℕ → List ℕ → ToldFields
  Unread : List ℕ → ToldFields

pub record RecordedFields : Type 0 where
  pub field : ℕ
  pub told : ToldFields

abbrev pub told_of : Told → ToldFields
told_of (told.Changed filed) = Changed filed.now.text.items
told_of (told.Kept digest words) = Kept digest.now words.now
told_of (told.Unread words) = Unread words.now

abbrev pub recorded_of : Recorded → RecordedFields
recorded_of r = record { field = r.field; told = told_of r.told }

-- what a line records; nothing at the end
abbrev pub IsToldOf : List (List ℕ) → EventFields → ToldFields → Type 0
IsToldOf archive (log.Changed digest words) (Changed text) = IsFiled archive digest text
IsToldOf archive (log.Changed digest words) (Kept other why) = ⊥
IsToldOf archive (log.Changed digest words) (Unread why) = ⊥
IsToldOf archive (log.Kept digest words) told = told ≡ Kept digest words
IsToldOf archive (log.Unread words) told = told ≡ Unread words
IsToldOf archive log.End told = ⊥

-- the first of the records, before those of the other lines
pub record IsFirst (archive : List (List ℕ)) (e : EntryFields) (more : List RecordedFields → Type 0) (records : List RecordedFields) : Type 0 where
  pub told : ToldFields
  pub rest : List RecordedFields
  pub first : records ≡ record { field = e.field; told = told } ∷ rest
  pub is_told : IsToldOf archive e.event told
  pub others : more rest

abbrev pub RecallsBy : EventFields → List (List ℕ) → EntryFields → (List RecordedFields → Type 0) → List RecordedFields → Type 0
RecallsBy log.End archive e more records = more records
RecallsBy (log.Changed digest words) archive e more records = IsFirst archive e more records
RecallsBy (log.Kept digest words) archive e more records = IsFirst archive e more records
RecallsBy (log.Unread words) archive e more records = IsFirst archive e more records

-- what many lines record, in their order
abbrev pub Recalls : List (List ℕ) → List EntryFields → List RecordedFields → Type 0
Recalls archive [] records = records ≡ []
Recalls archive (e ∷ es) records = RecallsBy e.event archive e (Recalls archive es) records

-- this text took over, and the archive lacks it
abbrev pub IsLostAt : List (List ℕ) → EntryFields → List ℕ → Type 0
IsLostAt archive e digest = ((words : List ℕ) × (e.event ≡ log.Changed digest words)) × IsLost archive digest

abbrev pub IsLostIn : List (List ℕ) → List EntryFields → RecallFault → Type 0
IsLostIn archive es (Lost digest) = (e : EntryFields) × Contains es e × IsLostAt archive e digest.now
IsLostIn archive es NoMemory = Unit {0}

abbrev pub IsRecalled : List (List ℕ) → EntryFields → Result (Option Recorded) RecallFault → Type 0
IsRecalled archive e (Ok None) = e.event ≡ log.End
IsRecalled archive e (Ok (Some r)) = (r.field ≡ e.field) × IsToldOf archive e.event (told_of r.told)
IsRecalled archive e (Err (Lost digest)) = IsLostAt archive e digest.now
IsRecalled archive e (Err NoMemory) = ⊥

-- the line's record was added, if it records anything
abbrev pub IsAdded : List (List ℕ) → EntryFields → List Recorded → List Recorded → Result (Unit {0}) RecallFault → Type 0
IsAdded archive e old new (Ok _) =
    ((e.event ≡ log.End) × (new ≡ old))
    ⊎ ((r : Recorded) × (new ≡ old ++ r ∷ []) × (r.field ≡ e.field) × IsToldOf archive e.event (told_of r.told))
IsAdded archive e old new (Err (Lost digest)) = IsLostAt archive e digest.now
IsAdded archive e old new (Err NoMemory) = Unit {0}
