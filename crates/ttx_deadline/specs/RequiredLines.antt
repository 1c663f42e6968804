-- The lines of verdicts with a requirement (profile): words and numbers with one space between, ended by 0A.
--
--   unmet_text, unmet_line  what a certificate doesn't promise, of what is required
--   required_line, late_required_line       the line of a verdict on so many pages
use Rattle.std.specs.Prelude.{ℕ, List, [], ◌∷◌, ◌++◌, codes}
use Rattle.std.specs.Fmt.{decimal}
use Rattle.ttx_certificate.specs.Entries.{CertificateFields}
use Rattle.ttx_certify.specs.VerdictLines.{verdict_line}
use Rattle.ttx_certify.specs.declared.verdict.Verdict.TheVariants as certifier
use Rattle.ttx_late.specs.LateVerdictLines.{late_verdict_line}
use Rattle.ttx_deadline.specs.declared.requirements.RequiredVerdict.{RequiredVerdict}
use Rattle.ttx_deadline.specs.declared.requirements.RequiredVerdict.TheVariants as required
use Rattle.ttx_deadline.specs.declared.requirements.LateRequiredVerdict.{LateRequiredVerdict}
use Rattle.ttx_deadline.specs.declared.requirements.LateRequiredVerdict.TheVariants as late
use Rattle.ttx_deadline.specs.declared.requirements.Unmet.{Unmet}
use Rattle.ttx_deadline.specs.declared.requirements.Unmet.TheVariants.{Lines, Deadline, LateDeadline}

unfoldable pub unmet_text : Unmet → List ℕ
unmet_text (Lines lines service) = codes "no lines " ++ decimal lines ++ codes " of " ++ decimal service
unmet_text (Deadline deadline fields) = codes "no deadline " ++ decimal deadline ++ codes " of " ++ decimal fields
unmet_text (LateDeadline deadline fields) = codes "no late-deadline " ++ decimal deadline ++ codes " of " ++ decimal fields

abbrev pub unmet_line : Unmet → List ℕ
unmet_line unmet = unmet_text unmet ++ 10 ∷ []

abbrev pub required_line : CertificateFields → ℕ → RequiredVerdict → List ℕ
required_line w pages required.Yes = verdict_line w pages certifier.Yes
required_line w pages (required.No reason) = verdict_line w pages (certifier.No reason)
required_line w pages (required.Unmet unmet) = unmet_line unmet

-- that of the certifier for receivers that show pages late, or of what is unmet
abbrev pub late_required_line : CertificateFields → ℕ → LateRequiredVerdict → List ℕ
late_required_line w pages (late.Certified verdict) = late_verdict_line w pages verdict
late_required_line w pages (late.Unmet unmet) = unmet_line unmet
