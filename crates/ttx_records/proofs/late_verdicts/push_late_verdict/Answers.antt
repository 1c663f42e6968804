use Rattle.std.proofs.Common.{◌≡◌, ◌++◌, [], ◌∷◌, OnOk, string_bytes, codes, sym, ap, subst}
use Rattle.ttx_certificate.specs.Certificates.{fields_of}
use Rattle.ttx_json.specs.Objects.{Member}
use Rattle.ttx_records.proofs.Lines.{told}
use Rattle.ttx_records.specs.LateVerdicts.{late_record}
use Rattle.ttx_records.specs.Verdicts.{of_page}
use Rattle.ttx_records.proofs.late_verdicts.push_late_verdict.Goals as goal

pub returns-in-NeverShown : goal.returns-in-NeverShown
returns-in-NeverShown c =
    subst (λ v. OnOk c.push_of_page.result (string_bytes c.push_of_page.new.text ≡ string_bytes c.args.text.now
    ++ late_record (fields_of c.args.certificate.now) c.args.pages v)) (sym c.in-NeverShown.is)
    (told _ _ _ (ap (λ (m : Member). of_page 13 (codes "never-shown") c.in-NeverShown.page (m ∷ [])) c.count-in-NeverShown.ensures)
    c.push_of_page.ensures)
