-- Where no deadline is found, the verdict on the certificate is a No.
use Rattle.std.proofs.Common.{◌≡◌, ℕ, List, [], None, refl}
use Rattle.ttx_certify.specs.declared.verdict.Verdict.{Verdict}
use Rattle.ttx_certify.specs.declared.verdict.Verdict.TheVariants.{Yes, No}
use Rattle.ttx_page.specs.declared.class.Class.{Class}
use Rattle.ttx_source.specs.Services.{ServiceFields, pages_of}
use Rattle.ttx_tool.specs.Find.{IsVerdictLine, TellsNo, TellsVerdict}
use Rattle.ttx_witness.specs.Coverage.{IsCertificate}
use Rattle.ttx_certificate.specs.Entries.{CertificateFields, certificate_at}
use Rattle.ttx_witness.specs.search.Finding.{IsFoundFor}

module _ (cycle : List (List ℕ)) (service : ServiceFields) (repeat : ℕ) (class : Class) (w : CertificateFields)
    (is : IsCertificate (certificate_at w))
    (found : IsFoundFor cycle (pages_of service) repeat service.lines class (certificate_at w) None) (file line : List ℕ) (status : ℕ) where
  no_of : (verdict : Verdict) → file ≡ [] → IsVerdictLine cycle service w verdict line → status ≡ 1 → TellsNo cycle service w file line status
  no_of Yes nothing told one =
      absurd (found.least.1 w.deadline (record {
        w = certificate_at w;
        is = is;
        same_class = refl;
        same_lines = refl;
        same_repeat = refl;
        same_deadline = refl;
        accepted = told.exact;
      }))
  no_of (No reason) nothing told one = (nothing, (reason, told), one)

  pub says_no : TellsVerdict cycle service w file line status → TellsNo cycle service w file line status
  says_no h = no_of h.1.0 h.0 h.1.1 h.2
