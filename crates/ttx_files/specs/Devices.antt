-- Devices: the readers and writers of a call, in the order in which it turns to them.
--
--   Place                   which file it is
--   Device, input, output   a reader or a writer: its place, the bytes that it gives where they are known, and how many of its calls had
--                           failed before and after
--   IsRight                 what is read at a place is as it should be
--   IsFirstFailure          the first device that failed is one at this place; or none failed
--   AllRight                what was read at these devices is as it should be
--   failed_at               the place of which an answer says that its device failed
--   text_place, place_of    the place of a text, and of the file that a fault is of
--   IsAmong, IsOf           the fault is of a file at one of these places, or lack of memory
use Rattle.std.specs.Prelude.{◌≡◌, ◌⊎◌, ℕ, List, [], ◌∷◌, ⊤, Option, Some, None, IfSome, Result, Err}
use Rattle.ttx_cycle.specs.Counts.{HasRisen}
use Rattle.ttx_cycle.specs.Files.{IsPacketFile}
use Rattle.ttx_cycle.specs.declared.faults.CycleFault.TheVariants as cycle
use Rattle.ttx_source.specs.Services.{ServiceFields}
use Rattle.ttx_certificate.specs.Entries.{CertificateFields}
use Rattle.ttx_files.specs.Texts.{IsServiceText, IsCertificateText}
use Rattle.ttx_files.specs.declared.faults.FilesFault.{FilesFault}
use Rattle.ttx_files.specs.declared.faults.FilesFault.TheVariants.{Cycle, Service, Certificate, Read, TooLong, Write, NoMemory}
use Rattle.ttx_files.specs.declared.faults.TextFile.{TextFile}
use Rattle.ttx_files.specs.declared.faults.TextFile.TheVariants as text

-- the places on a command line; AtOutput is each file that is written, and the line that is printed
pub data Place : Type 0 where
  AtCycle : Place
  AtService : Place
  AtCertificate : Place
  AtCounter : Place
  AtFeed : Place
  AtOutput : Place

pub record Device : Type 0 where
  pub place : Place
  pub bytes : Option (List ℕ)
  pub old : ℕ
  pub new : ℕ

abbrev pub input : Place → Option (List ℕ) → ℕ → ℕ → Device
input place bytes old new = record { place = place; bytes = bytes; old = old; new = new }

abbrev pub output : ℕ → ℕ → Device
output old new = record { place = AtOutput; bytes = None; old = old; new = new }

-- the bytes are those of a packet file, of a service definition or of a certificate; other places may hold anything
abbrev pub IsRight : Place → Option (List ℕ) → Type 0
IsRight AtCycle known = IfSome known (λ bytes. (slots : List (List ℕ)) × IsPacketFile bytes slots)
IsRight AtService known = IfSome known (λ bytes. (service : ServiceFields) × IsServiceText bytes service)
IsRight AtCertificate known = IfSome known (λ bytes. (w : CertificateFields) × IsCertificateText bytes w)
IsRight AtCounter known = ⊤
IsRight AtFeed known = ⊤
IsRight AtOutput known = ⊤

-- None: no device failed. Some place: one at this place failed, none before it or after it did, and what was read before it is right.
abbrev pub IsFirstFailure : List Device → Option Place → Type 0
IsFirstFailure [] None = ⊤
IsFirstFailure [] (Some place) = ⊥
IsFirstFailure (d ∷ ds) None = (d.new ≡ d.old) × IsFirstFailure ds None
IsFirstFailure (d ∷ ds) (Some place) =
    ((d.place ≡ place) × HasRisen d.old d.new × IsFirstFailure ds None)
    ⊎ ((d.new ≡ d.old) × IsRight d.place d.bytes × IsFirstFailure ds (Some place))

abbrev pub AllRight : List Device → Type 0
AllRight [] = ⊤
AllRight (d ∷ ds) = IsRight d.place d.bytes × AllRight ds

abbrev pub failed_at : {T : Type 0} → Result T FilesFault → Option Place
failed_at (Err (Cycle cycle.Read)) = Some AtCycle
failed_at (Err (Read text.Service)) = Some AtService
failed_at (Err (Read text.Certificate)) = Some AtCertificate
failed_at (Err (Write written)) = Some AtOutput
failed_at _ = None

abbrev pub text_place : TextFile → Place
text_place text.Service = AtService
text_place text.Certificate = AtCertificate

abbrev pub place_of : FilesFault → Option Place
place_of (Cycle fault) = Some AtCycle
place_of (Service error) = Some AtService
place_of (Certificate fault) = Some AtCertificate
place_of (Read which) = Some (text_place which)
place_of (TooLong which) = Some (text_place which)
place_of (Write written) = Some AtOutput
place_of NoMemory = None

abbrev pub IsAmong : List Place → Option Place → Type 0
IsAmong places None = ⊤
IsAmong [] (Some place) = ⊥
IsAmong (p ∷ places) (Some place) = (p ≡ place) ⊎ IsAmong places (Some place)

abbrev pub IsOf : List Place → FilesFault → Type 0
IsOf places fault = IsAmong places (place_of fault)
