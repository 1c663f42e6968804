-- What is returned for the bytes of several files, which are read in order.
--
--   IsRefusedText, IsRefusedServed, IsRefused       why a service definition and a certificate are refused; a packet file and a service
--                                                   definition; all three. Those before the one that is refused are as they should be.
--   ReadsTexts, ReadsServed, ReadsInputs            the files, once they are read, or why they are refused
use Rattle.std.specs.Prelude.{ℕ, ◌<◌, List, length, ⊤, Result, Ok, Err}
use Rattle.ttx_cycle.specs.Bounded.{most_bytes}
use Rattle.ttx_cycle.specs.Cycles.{slots_of}
use Rattle.ttx_cycle.specs.Files.{IsPacketFile}
use Rattle.ttx_cycle.specs.Reading.{Judged}
use Rattle.ttx_source.specs.Services.{ServiceFields}
use Rattle.ttx_certificate.specs.Certificates.{fields_of}
use Rattle.ttx_files.specs.Texts.{IsServiceText, IsCertificateText, IsServiceFault, IsCertificateFault}
use Rattle.ttx_files.specs.declared.faults.FilesFault.{FilesFault}
use Rattle.ttx_files.specs.declared.faults.FilesFault.TheVariants.{Cycle, Service, Certificate, Read, TooLong, Write, NoMemory}
use Rattle.ttx_files.specs.declared.faults.TextFile.TheVariants as text
use Rattle.ttx_files.specs.declared.readers.Inputs.{Inputs}
use Rattle.ttx_files.specs.declared.readers.Served.{Served}
use Rattle.ttx_files.specs.declared.readers.Texts.{Texts}

-- a service definition and a certificate
abbrev pub IsRefusedText : List ℕ → List ℕ → FilesFault → Type 0
IsRefusedText b c (Cycle fault) = ⊥
IsRefusedText b c (Service error) = IsServiceFault b error
IsRefusedText b c (Certificate fault) = (service : ServiceFields) × IsServiceText b service × IsCertificateFault c fault
IsRefusedText b c (Read text.Service) = ⊤
IsRefusedText b c (Read text.Certificate) = (service : ServiceFields) × IsServiceText b service
IsRefusedText b c (TooLong text.Service) = most_bytes < length b
IsRefusedText b c (TooLong text.Certificate) = (service : ServiceFields) × IsServiceText b service × (most_bytes < length c)
IsRefusedText b c (Write written) = ⊥
IsRefusedText b c NoMemory = ⊤

-- a packet file and a service definition
abbrev pub IsRefusedServed : List ℕ → List ℕ → FilesFault → Type 0
IsRefusedServed a b (Cycle fault) = Judged a (Err fault)
IsRefusedServed a b (Service error) = (slots : List (List ℕ)) × IsPacketFile a slots × IsServiceFault b error
IsRefusedServed a b (Read text.Service) = (slots : List (List ℕ)) × IsPacketFile a slots
IsRefusedServed a b (TooLong text.Service) = (slots : List (List ℕ)) × IsPacketFile a slots × (most_bytes < length b)
IsRefusedServed a b NoMemory = ⊤
IsRefusedServed a b _ = ⊥

-- all three
abbrev pub IsRefused : List ℕ → List ℕ → List ℕ → FilesFault → Type 0
IsRefused a b c (Cycle fault) = Judged a (Err fault)
IsRefused a b c (Service error) = (slots : List (List ℕ)) × IsPacketFile a slots × IsServiceFault b error
IsRefused a b c (Certificate fault) =
    (slots : List (List ℕ)) × (service : ServiceFields) × IsPacketFile a slots × IsServiceText b service × IsCertificateFault c fault
IsRefused a b c (Read text.Service) = (slots : List (List ℕ)) × IsPacketFile a slots
IsRefused a b c (Read text.Certificate) =
    (slots : List (List ℕ)) × (service : ServiceFields) × IsPacketFile a slots × IsServiceText b service
IsRefused a b c (TooLong text.Service) = (slots : List (List ℕ)) × IsPacketFile a slots × (most_bytes < length b)
IsRefused a b c (TooLong text.Certificate) =
    (slots : List (List ℕ)) × (service : ServiceFields) × IsPacketFile a slots × IsServiceText b service × (most_bytes < length c)
IsRefused a b c (Write written) = ⊥
IsRefused a b c NoMemory = ⊤

abbrev pub ReadsTexts : List ℕ → List ℕ → Result Texts FilesFault → Type 0
ReadsTexts b c (Ok texts) = IsServiceText b texts.service × IsCertificateText c (fields_of texts.certificate)
ReadsTexts b c (Err fault) = IsRefusedText b c fault

abbrev pub ReadsServed : List ℕ → List ℕ → Result Served FilesFault → Type 0
ReadsServed a b (Ok served) = IsPacketFile a (slots_of served.cycle) × IsServiceText b served.service
ReadsServed a b (Err fault) = IsRefusedServed a b fault

abbrev pub ReadsInputs : List ℕ → List ℕ → List ℕ → Result Inputs FilesFault → Type 0
ReadsInputs a b c (Ok inputs) =
    IsPacketFile a (slots_of inputs.cycle) × IsServiceText b inputs.service × IsCertificateText c (fields_of inputs.certificate)
ReadsInputs a b c (Err fault) = IsRefused a b c fault
