-- Certificates with a deadline that is asked for (profile).
--
--   fields_with_deadline, with_deadline     a certificate with another deadline
--   IsFoundWith             the certificate that is found, with the deadline that is asked for, and the verdict on it
use Rattle.std.specs.Prelude.{◌≡◌, ◌↔◌, ℕ, List, Option}
use Rattle.ttx_page.specs.Pages.{Page}
use Rattle.ttx_certificate.specs.Entries.{CertificateFields, IsCertificateFields, certificate_fields_at, certificate_at}
use Rattle.ttx_certificate.specs.NamedStarts.{Certificate, IsCertificate}
use Rattle.ttx_witness.specs.search.Finding.{IsEnough, IsFoundFor}
use Rattle.ttx_certify.specs.Verdicts.{IsVerdict, Means}
use Rattle.ttx_certify.specs.declared.verdict.Verdict.{Verdict}
use Rattle.ttx_certify.specs.declared.verdict.Verdict.TheVariants.{Yes}
use Rattle.ttx_deadline.specs.declared.asked_deadlines.Asked.{Asked}

abbrev pub fields_with_deadline : CertificateFields → ℕ → CertificateFields
fields_with_deadline w deadline = certificate_fields_at w.lines w.repeat deadline w.entries w.class

abbrev pub with_deadline : Certificate → ℕ → Certificate
with_deadline w deadline = record { lines = w.lines; repeat = w.repeat; deadline = deadline; class = w.class; starts = w.starts }

-- yes exactly where there is a least deadline, and it is at most the one that is asked for
pub record IsFoundWith (cycle : List (List ℕ)) (pages : List Page) (lines : ℕ) (asked : Asked) (w : CertificateFields) (verdict : Verdict) : Type 0 where
  pub found : Certificate
  pub least : Option ℕ
  pub is : IsFoundFor cycle pages asked.repeat lines asked.class found least
  pub fields : IsCertificateFields w
  pub ranges : IsCertificate (certificate_at w)
  pub same : certificate_at w ≡ with_deadline found asked.deadline
  pub exact : (verdict ≡ Yes) ↔ IsEnough least asked.deadline
  pub certified : IsVerdict cycle pages (certificate_at w) verdict
  pub seen : Means cycle pages (certificate_at w) verdict
