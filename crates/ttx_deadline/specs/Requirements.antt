-- What a certificate has to promise for a service (profile).
--
--   first_of                the first requirement that it doesn't meet: the lines of the service, then a deadline
--   first_unmet, unmet_if   the same for its own deadline; where something is required
--   required_verdict        a verdict with what is required
--   IsRequiredVerdict       the answer to a cycle, a service, a certificate and what is required
--   IsPromised, MeansRequired       the lines of the service, and a deadline in time; what a yes means
use Rattle.std.specs.Prelude.{◌≡◌, ℕ, ◌≤◌, not, ◌==◌, nat_lt, List, Option, Some, None, if◌then◌else◌, ⊤, slice_get}
use Rattle.ttx_page.specs.Pages.{Page}
use Rattle.ttx_source.specs.Services.{ServiceFields, pages_of}
use Rattle.ttx_certificate.specs.Entries.{CertificateFields, certificate_at}
use Rattle.ttx_certify.specs.Seen.{Seen}
use Rattle.ttx_certify.specs.Verdicts.{IsVerdict}
use Rattle.ttx_certify.specs.declared.verdict.Verdict.{Verdict}
use Rattle.ttx_certify.specs.declared.verdict.Verdict.TheVariants as certifier
use Rattle.ttx_deadline.specs.declared.requirements.RequiredVerdict.{RequiredVerdict}
use Rattle.ttx_deadline.specs.declared.requirements.RequiredVerdict.TheVariants as required
use Rattle.ttx_deadline.specs.declared.requirements.Unmet.{Unmet}
use Rattle.ttx_deadline.specs.declared.requirements.Unmet.TheVariants.{Lines, Deadline}

-- the lines of the service first, then a deadline of at most so many fields; a later one is missed
abbrev pub first_of : ℕ → CertificateFields → ℕ → ℕ → Unmet → Option Unmet
first_of lines w deadline fields missed =
    if not (w.lines == lines) then Some (Lines w.lines lines) else if nat_lt fields deadline then Some missed else None

abbrev pub first_unmet : ℕ → CertificateFields → ℕ → Option Unmet
first_unmet lines w deadline = first_of lines w w.deadline deadline (Deadline w.deadline deadline)

abbrev pub unmet_if : ℕ → CertificateFields → Option ℕ → Option Unmet
unmet_if lines w None = None
unmet_if lines w (Some deadline) = first_unmet lines w deadline

-- a rejection stays; a yes has to meet what is required
abbrev pub required_verdict : Verdict → Option Unmet → RequiredVerdict
required_verdict (certifier.No reason) first = required.No reason
required_verdict certifier.Yes None = required.Yes
required_verdict certifier.Yes (Some first) = required.Unmet first

pub record IsRequiredVerdict (cycle : List (List ℕ)) (service : ServiceFields) (w : CertificateFields) (deadline : Option ℕ)
    (verdict : RequiredVerdict) : Type 0 where
  pub certified : Verdict
  pub is : IsVerdict cycle (pages_of service) (certificate_at w) certified
  pub so : verdict ≡ required_verdict certified (unmet_if service.lines w deadline)

abbrev pub IsPromised : ℕ → CertificateFields → Option ℕ → Type 0
IsPromised lines w None = ⊤
IsPromised lines w (Some deadline) = (w.lines ≡ lines) × (w.deadline ≤ deadline)

-- a yes means that the certificate promises what is required, and that each page is seen
abbrev pub MeansRequired : List (List ℕ) → ServiceFields → CertificateFields → Option ℕ → RequiredVerdict → Type 0
MeansRequired cycle service w deadline required.Yes = IsPromised service.lines w deadline
    × ((n : ℕ) (p : Page) → slice_get (pages_of service) n ≡ Some p → Seen cycle (pages_of service) p (certificate_at w))
MeansRequired cycle service w deadline (required.No reason) = ⊤
MeansRequired cycle service w deadline (required.Unmet first) = ⊤
