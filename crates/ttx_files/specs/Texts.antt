-- The texts of a command, and what is returned for the bytes of one file.
--
--   IsServiceText, IsCertificateText        what the two texts are
--   IsServiceFault, IsCertificateFault      why a text is not one
--   viewed_by               an answer, with its value as a plain record
--   ReadsPackets, ReadsServiceText, ReadsService, ReadsWitness      what is returned for the bytes of a packet file, of a text, a service
--                           definition, a certificate
--   ReadsSlots              what is returned for the bytes of a packet file whose slots are given one by one; P holds of all of them
--   of_text, IsUnread       why a text is not read, as a fault of this text, and that a fault is one of these
use Rattle.std.specs.Prelude.{◌≡◌, ◌⊎◌, ℕ, ◌<◌, ◌≤◌, List, length, ⊤, Result, Ok, Err, Vec}
use Rattle.std.specs.declared.alloc.Global.{Global}
use Rattle.ttx_cycle.specs.Bounded.{most_bytes}
use Rattle.ttx_cycle.specs.Files.{IsPacketFile}
use Rattle.ttx_cycle.specs.Reading.{Judged}
use Rattle.ttx_cycle.specs.declared.faults.CycleFault.TheVariants as cycle
use Rattle.ttx_cycle.specs.declared.faults.TextFault.{TextFault}
use Rattle.ttx_cycle.specs.declared.faults.TextFault.TheVariants as reading
use Rattle.ttx_source.specs.Faults.{fault_of}
use Rattle.ttx_source.specs.Services.{ServiceFields, read_bytes}
use Rattle.ttx_source.specs.declared.faults.SourceError.{SourceError}
use Rattle.ttx_source.specs.declared.faults.SourceFault.TheVariants as source
use Rattle.ttx_certificate.specs.CertificateReading.{read_text}
use Rattle.ttx_certificate.specs.Entries.{CertificateFields}
use Rattle.ttx_certificate.specs.declared.certificate_faults.CertFault.{CertFault}
use Rattle.ttx_certificate.specs.declared.certificate_faults.CertFault.TheVariants as witness
use Rattle.ttx_files.specs.declared.faults.FilesFault.{FilesFault}
use Rattle.ttx_files.specs.declared.faults.FilesFault.TheVariants.{Cycle, Service, Certificate, Read, TooLong, NoMemory}
use Rattle.ttx_files.specs.declared.faults.TextFile.{TextFile}
use Rattle.ttx_files.specs.declared.faults.TextFile.TheVariants as text

-- a text that is not too long, and its service
pub record IsServiceText (bytes : List ℕ) (service : ServiceFields) : Type 0 where
  pub most : length bytes ≤ most_bytes
  pub says : read_bytes bytes ≡ Ok service

-- and the certificate
pub record IsCertificateText (bytes : List ℕ) (w : CertificateFields) : Type 0 where
  pub most : length bytes ≤ most_bytes
  pub says : read_text bytes ≡ Ok w

-- why a text of at most that many bytes isn't a service definition
abbrev pub IsServiceFault : List ℕ → SourceError → Type 0
IsServiceFault bytes error =
    (length bytes ≤ most_bytes)
    × ((error ≡ record { fault = source.NoMemory; page = 0 }) ⊎ (read_bytes bytes ≡ Err (fault_of error.fault, error.page)))

-- and why one isn't a certificate
abbrev pub IsCertificateFault : List ℕ → CertFault → Type 0
IsCertificateFault bytes fault = (length bytes ≤ most_bytes) × ((fault ≡ witness.NoMemory) ⊎ (read_text bytes ≡ Err fault))

-- an answer, with its value as a plain record
abbrev pub viewed_by : {A B : Type 0} → (A → B) → Result A FilesFault → Result B FilesFault
viewed_by see (Ok a) = Ok (see a)
viewed_by see (Err fault) = Err fault

abbrev pub ReadsPackets : List ℕ → Result (List (List ℕ)) FilesFault → Type 0
ReadsPackets bytes (Ok slots) = IsPacketFile bytes slots
ReadsPackets bytes (Err (Cycle fault)) = Judged bytes (Err fault)
ReadsPackets bytes (Err _) = ⊥

-- Slots that are read one by one are not kept, so no allocation fails.
abbrev pub ReadsSlots : {T : Type 0} → (List (List ℕ) → Type 0) → List ℕ → Result T FilesFault → Type 0
ReadsSlots P bytes (Ok _) = (slots : List (List ℕ)) × IsPacketFile bytes slots × P slots
ReadsSlots P bytes (Err (Cycle cycle.NoMemory)) = ⊥
ReadsSlots P bytes (Err (Cycle fault)) = Judged bytes (Err fault)
ReadsSlots P bytes (Err _) = ⊥

-- the bytes themselves, whatever they say
abbrev pub ReadsServiceText : List ℕ → Result (Vec ℕ Global) FilesFault → Type 0
ReadsServiceText bytes (Ok read) = (read.items ≡ bytes) × (length bytes ≤ most_bytes)
ReadsServiceText bytes (Err (Read which)) = which ≡ text.Service
ReadsServiceText bytes (Err (TooLong which)) = (which ≡ text.Service) × (most_bytes < length bytes)
ReadsServiceText bytes (Err NoMemory) = ⊤
ReadsServiceText bytes (Err _) = ⊥

abbrev pub ReadsService : List ℕ → Result ServiceFields FilesFault → Type 0
ReadsService bytes (Ok service) = IsServiceText bytes service
ReadsService bytes (Err (Service error)) = IsServiceFault bytes error
ReadsService bytes (Err (Read which)) = which ≡ text.Service
ReadsService bytes (Err (TooLong which)) = (which ≡ text.Service) × (most_bytes < length bytes)
ReadsService bytes (Err NoMemory) = ⊤
ReadsService bytes (Err _) = ⊥

abbrev pub ReadsWitness : List ℕ → Result CertificateFields FilesFault → Type 0
ReadsWitness bytes (Ok w) = IsCertificateText bytes w
ReadsWitness bytes (Err (Certificate fault)) = IsCertificateFault bytes fault
ReadsWitness bytes (Err (Read which)) = which ≡ text.Certificate
ReadsWitness bytes (Err (TooLong which)) = (which ≡ text.Certificate) × (most_bytes < length bytes)
ReadsWitness bytes (Err NoMemory) = ⊤
ReadsWitness bytes (Err _) = ⊥

abbrev pub of_text : TextFile → TextFault → FilesFault
of_text which reading.Read = Read which
of_text which reading.TooLong = TooLong which
of_text which reading.NoMemory = NoMemory

abbrev pub IsUnread : TextFile → FilesFault → Type 0
IsUnread which (Read file) = file ≡ which
IsUnread which (TooLong file) = file ≡ which
IsUnread which NoMemory = ⊤
IsUnread which _ = ⊥
