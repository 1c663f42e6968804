-- Laws of certificates that are found with a deadline that is asked for.
--
--   answered                the answer to such a certificate, of which a deadline may be required
--   FoundIsCertified        its verdict is the one that it was found with, and it promises the deadline that was asked for
--   FoundIsRead             its text is read as the certificate
use Rattle.std.specs.Prelude.{◌≡◌, ℕ, ◌<◌, nat_lt, if◌then◌else◌, List, length, Option, Some, None, Ok}
use Rattle.ttx_page.specs.Pages.{Page}
use Rattle.ttx_source.specs.Services.{ServiceFields, pages_of}
use Rattle.ttx_certificate.specs.CertificateReading.{read_text}
use Rattle.ttx_certificate.specs.CertificateTexts.{certificate_text}
use Rattle.ttx_certificate.specs.Entries.{CertificateFields}
use Rattle.ttx_certify.specs.declared.verdict.Verdict.{Verdict}
use Rattle.ttx_certify.specs.declared.verdict.Verdict.TheVariants as certifier
use Rattle.ttx_deadline.specs.Deadlines.{IsFoundWith}
use Rattle.ttx_deadline.specs.Requirements.{IsRequiredVerdict}
use Rattle.ttx_deadline.specs.declared.asked_deadlines.Asked.{Asked}
use Rattle.ttx_deadline.specs.declared.requirements.RequiredVerdict.{RequiredVerdict}
use Rattle.ttx_deadline.specs.declared.requirements.RequiredVerdict.TheVariants as required
use Rattle.ttx_deadline.specs.declared.requirements.Unmet.TheVariants.{Deadline}

-- yes, unless an earlier deadline is required; a rejection stays
abbrev pub answered : ℕ → Verdict → Option ℕ → RequiredVerdict
answered deadline (certifier.No reason) earlier = required.No reason
answered deadline certifier.Yes None = required.Yes
answered deadline certifier.Yes (Some earlier) = if nat_lt earlier deadline then required.Unmet (Deadline deadline earlier) else required.Yes

abbrev pub FoundIsCertified : Type 0
FoundIsCertified = (cycle : List (List ℕ)) (service : ServiceFields) (asked : Asked) (w : CertificateFields) (verdict : Verdict) →
    0 < length cycle → IsFoundWith cycle (pages_of service) service.lines asked w verdict →
    (deadline : Option ℕ) (answer : RequiredVerdict) → IsRequiredVerdict cycle service w deadline answer →
    answer ≡ answered asked.deadline verdict deadline

abbrev pub FoundIsRead : Type 0
FoundIsRead = (cycle : List (List ℕ)) (pages : List Page) (lines : ℕ) (asked : Asked) (w : CertificateFields) (verdict : Verdict) →
    IsFoundWith cycle pages lines asked w verdict → read_text (certificate_text w) ≡ Ok w
