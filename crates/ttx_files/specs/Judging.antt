-- The verdict on a packet file, a service definition and a certificate.
--
--   IsJudged        the three files are such, and this is the verdict on what they say, with its line
--   JudgesFiles     the result for three files: this, or why they are refused
--   AnswersFiles    what has been written, for each answer
use Rattle.std.specs.Prelude.{ℕ, List, Option, Result}
use Rattle.ttx_cycle.specs.Files.{IsPacketFile}
use Rattle.ttx_source.specs.Services.{ServiceFields}
use Rattle.ttx_certificate.specs.Entries.{CertificateFields}
use Rattle.ttx_files.specs.Answers.{WritesAnswer}
use Rattle.ttx_files.specs.Inputs.{IsRefused}
use Rattle.ttx_files.specs.Telling.{IsTold}
use Rattle.ttx_files.specs.Texts.{IsServiceText, IsCertificateText}
use Rattle.ttx_files.specs.declared.faults.FilesFault.{FilesFault}
use Rattle.ttx_files.specs.declared.told.Told.{Told}

module _ {V : Type 0} (Says : List (List ℕ) → ServiceFields → CertificateFields → V → List ℕ → Type 0) where
  pub record IsJudged (a b c : List ℕ) (verdict : V) (line : List ℕ) : Type 0 where
    pub slots : List (List ℕ)
    pub service : ServiceFields
    pub w : CertificateFields
    pub cycle_is : IsPacketFile a slots
    pub service_is : IsServiceText b service
    pub certificate_is : IsCertificateText c w
    pub judged : Says slots service w verdict line

  abbrev pub JudgesFiles : List ℕ → List ℕ → List ℕ → Result (Told V) FilesFault → Type 0
  JudgesFiles a b c told = IsTold (IsJudged a b c) (IsRefused a b c) told

  abbrev pub AnswersFiles : List ℕ → List ℕ → List ℕ → Option (List ℕ) → Option (List ℕ) → Result V FilesFault → Type 0
  AnswersFiles a b c old new result = WritesAnswer (IsJudged a b c) (IsRefused a b c) old new result
