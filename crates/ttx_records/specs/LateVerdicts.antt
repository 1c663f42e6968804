-- Verdicts of `certify --late` as JSON objects (profile).
--
--   late_members            a yes, with the slots after the deadline
--   late_record             a verdict
use Rattle.std.specs.Prelude.{ℕ, List, [], ◌∷◌, codes}
use Rattle.ttx_certificate.specs.Entries.{CertificateFields}
use Rattle.ttx_late.specs.declared.verdict.LateVerdict.{LateVerdict}
use Rattle.ttx_late.specs.declared.verdict.LateVerdict.TheVariants.{Yes, No, NeverShown}
use Rattle.ttx_json.specs.Objects.{Member, count}
use Rattle.ttx_records.specs.Names.{line}
use Rattle.ttx_records.specs.Verdicts.{yes_members, at_slot, reason_members}

abbrev pub late_members : CertificateFields → ℕ → ℕ → List Member
late_members w pages gap = yes_members w pages (count (codes "late") gap ∷ [])

abbrev pub late_record : CertificateFields → ℕ → LateVerdict → List ℕ
late_record w pages (Yes gap) = line (late_members w pages gap)
late_record w pages (No reason) = line (reason_members reason)
late_record w pages (NeverShown page slot) = line (at_slot 13 (codes "never-shown") page slot)
