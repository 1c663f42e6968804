-- What is reported once the three inputs are read, and why they are not.
use Rattle.std.proofs.Common.{◌≡◌, ℕ, List, Option, Some, None, Err, subst, sym, ap, ◌∙◌}
use Rattle.std.specs.Prelude.{IfSome, ⊤}
use Rattle.ttx_certificate.specs.Entries.{CertificateFields}
use Rattle.ttx_cycle.specs.Files.{IsPacketFile, file_of}
use Rattle.ttx_files.specs.Texts.{IsCertificateText}
use Rattle.ttx_files.specs.declared.faults.FilesFault.TheVariants.{Cycle, Service, Certificate, Read, TooLong, Write, NoMemory}
use Rattle.ttx_files.specs.declared.faults.TextFile.{TextFile}
use Rattle.ttx_files.specs.declared.faults.TextFile.TheVariants as text
use Rattle.ttx_report.specs.Files.{Marks, marks_of}
use Rattle.ttx_source.specs.Promises.{PromiseFields}
use Rattle.ttx_source.specs.Services.{ServiceFields}
use Rattle.ttx_tool.specs.Promised.{IsPromisedText, IsNoPromisedText}
use Rattle.ttx_tool.specs.Report.{ReadsSealed, IsNoFiling, TellsReport, IsReporting}
use Rattle.ttx_faults.specs.declared.faults.ToolFault.{ToolFault}
use Rattle.ttx_faults.specs.declared.faults.ToolFault.TheVariants as fault

-- the marks of files whose bytes are known
pub marked : (a b c service certificate : List ℕ) (slots : List (List ℕ)) → IsPacketFile a slots → service ≡ b → certificate ≡ c →
    (m : Marks) → m ≡ marks_of (file_of slots) service certificate → m ≡ marks_of a b c
marked a b c service certificate slots is service_is certificate_is m e =
    e ∙ ap (λ z. marks_of z service certificate) (sym is.same) ∙ ap (λ z. marks_of a z certificate) service_is ∙ ap (marks_of a b) certificate_is

pub reporting : (slots : List (List ℕ)) (service : ServiceFields) (promises : List PromiseFields) (w : CertificateFields)
    (marks : Marks) (date : Option (List ℕ)) (text : List ℕ) (status : ℕ) → TellsReport slots service promises w marks date text status →
    (a b c : List ℕ) → IsPacketFile a slots → IsPromisedText b service promises → IsCertificateText c w → marks ≡ marks_of a b c →
    IsReporting a b c date text status
reporting slots service promises w marks date text status told a b c cycle_is service_is certificate_is same = record {
  slots = slots;
  service = service;
  promises = promises;
  w = w;
  cycle_is = cycle_is;
  service_is = service_is;
  certificate_is = certificate_is;
  told = subst (λ m. TellsReport slots service promises w m date text status) same told;
}

is_certificate : TextFile → Type 0
is_certificate text.Service = ⊥
is_certificate text.Certificate = ⊤

is_service : TextFile → Type 0
is_service text.Service = ⊤
is_service text.Certificate = ⊥

-- the text of a service with promises is not read
pub no_service : (a b c : List ℕ) (slots : List (List ℕ)) → IsPacketFile a slots → (f : ToolFault) → IsNoPromisedText b f → IsNoFiling a b c f
unfolding is_certificate
no_service a b c slots is (fault.Files (Cycle cause)) none = absurd none
no_service a b c slots is (fault.Files (Service error)) none = (slots, is, none)
no_service a b c slots is (fault.Files (Certificate cause)) none = absurd none
no_service a b c slots is (fault.Files (Read text.Service)) none = (slots, is, none)
no_service a b c slots is (fault.Files (Read text.Certificate)) none = absurd (subst is_certificate none tt)
no_service a b c slots is (fault.Files (TooLong text.Service)) none = (slots, is, none)
no_service a b c slots is (fault.Files (TooLong text.Certificate)) none = absurd (subst is_certificate none.0 tt)
no_service a b c slots is (fault.Files (Write written)) none = absurd none
no_service a b c slots is (fault.Files NoMemory) none = tt
no_service a b c slots is (fault.Plan cause) none = absurd none
no_service a b c slots is fault.Class none = absurd none
no_service a b c slots is fault.Same none = absurd none
no_service a b c slots is (fault.Counter cause) none = absurd none
no_service a b c slots is fault.Feed none = absurd none

-- the text of a certificate is not read
pub no_certificate : (a b c : List ℕ) (slots : List (List ℕ)) (service : ServiceFields) (promises : List PromiseFields) → IsPacketFile a slots →
    IsPromisedText b service promises → (f : ToolFault) → ReadsSealed c (Err f) → IsNoFiling a b c f
unfolding is_service
no_certificate a b c slots service promises is says (fault.Files (Cycle cause)) none = absurd none
no_certificate a b c slots service promises is says (fault.Files (Service error)) none = absurd none
no_certificate a b c slots service promises is says (fault.Files (Certificate cause)) none = (slots, service, promises, is, says, none)
no_certificate a b c slots service promises is says (fault.Files (Read text.Service)) none = absurd (subst is_service none tt)
no_certificate a b c slots service promises is says (fault.Files (Read text.Certificate)) none = (slots, service, promises, is, says, none)
no_certificate a b c slots service promises is says (fault.Files (TooLong text.Service)) none = absurd (subst is_service none.0 tt)
no_certificate a b c slots service promises is says (fault.Files (TooLong text.Certificate)) none = (slots, service, promises, is, says, none)
no_certificate a b c slots service promises is says (fault.Files (Write written)) none = absurd none
no_certificate a b c slots service promises is says (fault.Files NoMemory) none = tt
no_certificate a b c slots service promises is says (fault.Plan cause) none = absurd none
no_certificate a b c slots service promises is says fault.Class none = absurd none
no_certificate a b c slots service promises is says fault.Same none = absurd none
no_certificate a b c slots service promises is says (fault.Counter cause) none = absurd none
no_certificate a b c slots service promises is says fault.Feed none = absurd none

-- what is known of three files, where the bytes of each are known
pub of_three : (P Q R : List ℕ → Type 0) (T : List ℕ → List ℕ → List ℕ → Type 0) (a b c : Option (List ℕ)) →
    ((x y z : List ℕ) → P x → Q y → R z → T x y z) → IfSome a P → IfSome b Q → IfSome c R → IfSome a (λ x. IfSome b (λ y. IfSome c (T x y)))
of_three P Q R T (Some a) (Some b) (Some c) f p q r = f a b c p q r
of_three P Q R T (Some a) (Some b) None f p q r = tt
of_three P Q R T (Some a) None c f p q r = tt
of_three P Q R T None b c f p q r = tt

pub nothing_of : (c : Option (List ℕ)) → IfSome c (λ z. ⊤)
nothing_of (Some c) = tt
nothing_of None = tt

pub then_three : (P T : List ℕ → List ℕ → List ℕ → Type 0) (a b c : Option (List ℕ)) → ((x y z : List ℕ) → P x y z → T x y z) →
    IfSome a (λ x. IfSome b (λ y. IfSome c (P x y))) → IfSome a (λ x. IfSome b (λ y. IfSome c (T x y)))
then_three P T (Some a) (Some b) (Some c) f p = f a b c p
then_three P T (Some a) (Some b) None f p = tt
then_three P T (Some a) None c f p = tt
then_three P T None b c f p = tt
