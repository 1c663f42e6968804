-- What a certificate has to promise for a service, also to receivers that show pages late (profile).
--
--   fields_up, late_deadline        slots in whole fields, rounded up; the fields after which such receivers have each page
--   first_late_unmet        the first requirement that a certificate doesn't meet
--   late_required_verdict   a verdict with what is required
--   IsLateRequiredVerdict   the answer to a cycle, a service, a certificate and what is required
--   IsShownWithin, MeansLateRequired        each receiver has the page after so many fields; what a yes means
use Rattle.std.specs.Prelude.{◌≡◌, ℕ, ◌+◌, ◌/◌, ◌%◌, min, List, Option, Some, None, ⊤, slice_get}
use Rattle.ttx_page.specs.Pages.{Page}
use Rattle.ttx_source.specs.Services.{ServiceFields, pages_of}
use Rattle.ttx_certificate.specs.Entries.{CertificateFields, certificate_at}
use Rattle.ttx_certificate.specs.NamedStarts.{Certificate}
use Rattle.ttx_certify.specs.Seen.{Seen}
use Rattle.ttx_late.specs.LateVerdicts.{IsLateVerdict}
use Rattle.ttx_late.specs.SeenLate.{SeenLate}
use Rattle.ttx_late.specs.declared.verdict.LateVerdict.{LateVerdict}
use Rattle.ttx_late.specs.declared.verdict.LateVerdict.TheVariants as late
use Rattle.ttx_deadline.specs.Deadlines.{with_deadline}
use Rattle.ttx_deadline.specs.Requirements.{first_of}
use Rattle.ttx_deadline.specs.declared.requirements.LateRequiredVerdict.{LateRequiredVerdict}
use Rattle.ttx_deadline.specs.declared.requirements.LateRequiredVerdict.TheVariants.{Certified}
use Rattle.ttx_deadline.specs.declared.requirements.LateRequiredVerdict.TheVariants as required
use Rattle.ttx_deadline.specs.declared.requirements.Unmet.{Unmet}
use Rattle.ttx_deadline.specs.declared.requirements.Unmet.TheVariants.{LateDeadline}

abbrev pub fields_up : ℕ → ℕ → ℕ
fields_up slots lines = slots / lines + min 1 (slots % lines)

-- the deadline, and the slots from a header to the next one of its magazine
abbrev pub late_deadline : CertificateFields → ℕ → ℕ
late_deadline w gap = w.deadline + fields_up gap w.lines

abbrev pub first_late_unmet : ℕ → CertificateFields → ℕ → ℕ → Option Unmet
first_late_unmet lines w gap fields = first_of lines w (late_deadline w gap) fields (LateDeadline (late_deadline w gap) fields)

abbrev pub unless_unmet : LateVerdict → Option Unmet → LateRequiredVerdict
unless_unmet verdict None = Certified verdict
unless_unmet verdict (Some first) = required.Unmet first

-- a rejection stays; a yes has to meet what is required
abbrev pub late_required_verdict : ℕ → CertificateFields → ℕ → LateVerdict → LateRequiredVerdict
late_required_verdict lines w fields (late.Yes gap) = unless_unmet (late.Yes gap) (first_late_unmet lines w gap fields)
late_required_verdict lines w fields (late.No reason) = Certified (late.No reason)
late_required_verdict lines w fields (late.NeverShown page slot) = Certified (late.NeverShown page slot)

pub record IsLateRequiredVerdict (cycle : List (List ℕ)) (service : ServiceFields) (w : CertificateFields) (fields : ℕ)
    (verdict : LateRequiredVerdict) : Type 0 where
  pub certified : LateVerdict
  pub is : IsLateVerdict cycle (pages_of service) (certificate_at w) certified
  pub so : verdict ≡ late_required_verdict service.lines w fields certified

-- so many fields after tuning, and ever after, receivers that show the page at once have it, and those that show it late
pub record IsShownWithin (cycle : List (List ℕ)) (pages : List Page) (p : Page) (w : Certificate) (fields : ℕ) : Type 0 where
  pub at_once : Seen cycle pages p (with_deadline w fields)
  pub late : SeenLate cycle pages p (with_deadline w fields) 0

-- a yes means that the certificate has the lines of the service, and that each receiver has each page after so many fields
abbrev pub MeansLateRequired : List (List ℕ) → ServiceFields → CertificateFields → ℕ → LateRequiredVerdict → Type 0
MeansLateRequired cycle service w fields (Certified (late.Yes gap)) = (w.lines ≡ service.lines)
    × ((n : ℕ) (p : Page) → slice_get (pages_of service) n ≡ Some p → IsShownWithin cycle (pages_of service) p (certificate_at w) fields)
MeansLateRequired cycle service w fields (Certified verdict) = ⊤
MeansLateRequired cycle service w fields (required.Unmet first) = ⊤
