-- Verdicts of `certify --within` as JSON objects (profile).
--
--   unmet_members           what a certificate does not promise, of what is required
--   required_record         a verdict
use Rattle.std.specs.Prelude.{ℕ, List, [], ◌∷◌, codes}
use Rattle.ttx_certificate.specs.Entries.{CertificateFields}
use Rattle.ttx_deadline.specs.declared.requirements.RequiredVerdict.{RequiredVerdict}
use Rattle.ttx_deadline.specs.declared.requirements.RequiredVerdict.TheVariants as required
use Rattle.ttx_deadline.specs.declared.requirements.Unmet.{Unmet}
use Rattle.ttx_deadline.specs.declared.requirements.Unmet.TheVariants.{Lines, Deadline, LateDeadline}
use Rattle.ttx_json.specs.Objects.{Member, word, count}
use Rattle.ttx_records.specs.Names.{line}
use Rattle.ttx_records.specs.Verdicts.{yes_members, reason_members}

-- the name of a number, the number, and what is required of it
abbrev pub unmet : List ℕ → ℕ → ℕ → List Member
unmet name value most = word (codes "answer") (codes "no") ∷ word (codes "name") name ∷ count name value ∷ count (codes "of") most ∷ []

abbrev pub unmet_members : Unmet → List Member
unmet_members (Lines lines service) = unmet (codes "lines") lines service
unmet_members (Deadline deadline fields) = unmet (codes "deadline") deadline fields
unmet_members (LateDeadline deadline fields) = unmet (codes "late-deadline") deadline fields

abbrev pub required_record : CertificateFields → ℕ → RequiredVerdict → List ℕ
required_record w pages required.Yes = line (yes_members w pages [])
required_record w pages (required.No reason) = line (reason_members reason)
required_record w pages (required.Unmet unmet) = line (unmet_members unmet)
