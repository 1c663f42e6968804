-- What the certifier says of a certificate that is found with a deadline.
use Rattle.std.proofs.Common.{◌≡◌, ℕ, ◌∙◌, nat_lt, if◌then◌else◌, not, ◌==◌, Bool, true, false, Option, Some, None, refl, ap}
use Rattle.std.proofs.lemmas.Bool.{eq-eqb}
use Rattle.ttx_source.specs.Services.{pages_of}
use Rattle.ttx_certificate.specs.CertificateLaws.{WrittenTextsAreRead}
use Rattle.ttx_certificate.specs.Entries.{CertificateFields, certificate_at}
use Rattle.ttx_certify.specs.VerdictLaws.{VerdictsAreOne}
use Rattle.ttx_certify.specs.declared.verdict.Verdict.{Verdict}
use Rattle.ttx_certify.specs.declared.verdict.Verdict.TheVariants as certifier
use Rattle.ttx_deadline.specs.FoundLaws.{answered, FoundIsCertified, FoundIsRead}
use Rattle.ttx_deadline.specs.Requirements.{unmet_if, required_verdict}
use Rattle.ttx_deadline.specs.declared.requirements.RequiredVerdict.TheVariants as required
use Rattle.ttx_deadline.specs.declared.requirements.Unmet.{Unmet}
use Rattle.ttx_deadline.specs.declared.requirements.Unmet.TheVariants.{Lines, Deadline}

met : (same : Bool) → same ≡ true → (first : Unmet) (rest : Option Unmet) →
    required_verdict certifier.Yes (if not same then Some first else rest) ≡ required_verdict certifier.Yes rest
met true e first rest = refl
met false e first rest = cc

in_time : (later : Bool) (deadline earlier : ℕ) →
    required_verdict certifier.Yes (if later then Some (Deadline deadline earlier) else None)
    ≡ (if later then required.Unmet (Deadline deadline earlier) else required.Yes)
in_time true deadline earlier = refl
in_time false deadline earlier = refl

required_of : (w : CertificateFields) (lines deadline : ℕ) → w.lines ≡ lines → w.deadline ≡ deadline → (verdict : Verdict) (earlier : Option ℕ) →
    required_verdict verdict (unmet_if lines w earlier) ≡ answered deadline verdict earlier
required_of w lines deadline l d (certifier.No reason) None = refl
required_of w lines deadline l d (certifier.No reason) (Some earlier) = refl
required_of w lines deadline l d certifier.Yes None = refl
required_of w lines deadline l d certifier.Yes (Some earlier) =
    met (w.lines == lines) (eq-eqb w.lines lines l) (Lines w.lines lines)
    (if nat_lt earlier w.deadline then Some (Deadline w.deadline earlier) else None)
    ∙ in_time (nat_lt earlier w.deadline) w.deadline earlier
    ∙ ap (λ (n : ℕ). if nat_lt earlier n then required.Unmet (Deadline n earlier) else required.Yes) d

pub found_is_certified : VerdictsAreOne → FoundIsCertified
found_is_certified law cycle service asked w verdict some f earlier answer r =
    let one = law cycle (pages_of service) (certificate_at w) some f.ranges r.certified verdict r.is f.certified in
    r.so ∙ ap (λ v. required_verdict v (unmet_if service.lines w earlier)) one
    ∙ required_of w service.lines asked.deadline (ap (λ c. c.lines) f.same ∙ f.is.same_lines) (ap (λ c. c.deadline) f.same) verdict earlier

pub found_is_read : WrittenTextsAreRead → FoundIsRead
found_is_read law cycle pages lines asked w verdict f = law w f.fields
