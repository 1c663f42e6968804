-- A report on a cycle, the service that it carries, and a certificate, as an HTML document.
--
--   Facts, facts_of         what is found out; the same for a value of the program
--   judged_html, found_html, tail_html, report_html         the parts of the document, and all of it
--   AreFacts, AreFindings   what is found out is true; and the line of it
--   IsReport                a document of such facts
use Rattle.std.specs.Prelude.{◌≡◌, ℕ, List, ◌++◌, codes, length, string_bytes, Option}
use Rattle.ttx_certify.specs.VerdictLines.{verdict_line}
use Rattle.ttx_certify.specs.Verdicts.{IsVerdict, Means}
use Rattle.ttx_certify.specs.declared.verdict.Verdict.{Verdict}
use Rattle.ttx_document.specs.Frames.{start_html, style, body_html, end_html}
use Rattle.ttx_header.specs.Ids.{Id}
use Rattle.ttx_promise.specs.OtherPages.{other_pages}
use Rattle.ttx_promise.specs.PromisedWaits.{ArePromisedWaits}
use Rattle.ttx_promise.specs.declared.waits_and_promises.PromisedWait.{PromisedWait}
use Rattle.ttx_report.specs.Files.{Marks, files_html, version_html, date_html}
use Rattle.ttx_report.specs.Verdicts.{verdict_html, numbers_html, decoders_html}
use Rattle.ttx_report.specs.Waits.{waits_html, others_html}
use Rattle.ttx_source.specs.Promises.{PromiseFields}
use Rattle.ttx_source.specs.Services.{ServiceFields, authored_ids, pages_of}
use Rattle.ttx_report.specs.declared.reports.Findings.{Findings}
use Rattle.ttx_wait.specs.Reports.{IsFirstBad}
use Rattle.ttx_certificate.specs.Entries.{CertificateFields, certificate_at}

unfoldable pub head_html : List ℕ
head_html = start_html (codes "Report on a teletext carousel") ++ style ++ body_html (codes "Report on a teletext carousel")

-- the verdict, the waits beside promises, the first bad slot, and the pages on the air that the service text does not have
pub record Facts : Type 0 where
  pub verdict : Verdict
  pub waits : List PromisedWait
  pub bad : Option ℕ
  pub others : List Id

unfoldable pub judged_html : ServiceFields → CertificateFields → Verdict → List ℕ
judged_html service w verdict = verdict_html w (length service.pages) verdict ++ numbers_html w service.lines ++ decoders_html w.class

unfoldable pub found_html : Facts → List ℕ
found_html facts = waits_html facts.waits facts.bad ++ others_html facts.others

unfoldable pub tail_html : ℕ → ServiceFields → CertificateFields → Marks → List ℕ → List ℕ
tail_html slots service w marks version =
    files_html slots (length service.pages) (length w.entries) marks ++ version_html version ++ end_html

-- of so many slots; version and date are printed as they are given
abbrev pub report_html : ℕ → ServiceFields → CertificateFields → Facts → Marks → List ℕ → Option (List ℕ) → List ℕ
report_html slots service w facts marks version date =
    head_html ++ date_html date ++ judged_html service w facts.verdict ++ found_html facts ++ tail_html slots service w marks version

-- the verdict is that of `certify`, the waits are those of `wait`, beside the promises, and the others are no pages of the service
pub record AreFacts (slots : List (List ℕ)) (service : ServiceFields) (promises : List PromiseFields) (w : CertificateFields) (facts : Facts)
    : Type 0 where
  pub exact : IsVerdict slots (pages_of service) (certificate_at w) facts.verdict
  pub seen : Means slots (pages_of service) (certificate_at w) facts.verdict
  pub waits : ArePromisedWaits slots (pages_of service) w.class w.repeat service.lines promises facts.waits
  pub bad : IsFirstBad slots facts.bad
  pub others : facts.others ≡ other_pages slots (authored_ids service.pages)

abbrev pub facts_of : Findings → Facts
facts_of f = record { verdict = f.verdict; waits = f.waits.items; bad = f.bad; others = f.others.items }

pub record AreFindings (slots : List (List ℕ)) (service : ServiceFields) (promises : List PromiseFields) (w : CertificateFields) (f : Findings)
    : Type 0 where
  pub facts : AreFacts slots service promises w (facts_of f)
  pub line : string_bytes f.line ≡ verdict_line w (length service.pages) f.verdict

pub record IsReport (slots : List (List ℕ)) (service : ServiceFields) (promises : List PromiseFields) (w : CertificateFields)
    (verdict : Verdict) (marks : Marks) (version : List ℕ) (date : Option (List ℕ)) (text : List ℕ) : Type 0 where
  pub facts : Facts
  pub are : AreFacts slots service promises w facts
  pub judged : verdict ≡ facts.verdict
  pub same : text ≡ report_html (length slots) service w facts marks version date
