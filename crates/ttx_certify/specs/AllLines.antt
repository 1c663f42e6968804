-- The text of a verdict and of the first reason of each page (profile).
--
--   reason_line, page_line, page_lines      the line of a reason, of a page that has one, and those of all pages
--   has_reason, reasons_in  whether a page has one; how many have
--   all_text                the line of the verdict, those of the pages, and the count
--   IsJudgedAll             the verdict and the reasons of what was read, with their text
use Rattle.std.specs.Prelude.{◌≡◌, ℕ, Bool, List, ◌∷◌, [], ◌++◌, codes, length, flat_map, Option, Some, None, is_some}
use Rattle.std.specs.List.{count_by}
use Rattle.std.specs.Fmt.{decimal}
use Rattle.ttx_source.specs.Services.{ServiceFields, pages_of}
use Rattle.ttx_certificate.specs.Entries.{CertificateFields, certificate_at}
use Rattle.ttx_witness.specs.declared.faults.reason.Reason.{Reason}
use Rattle.ttx_certify.specs.AllReasons.{AreReasons}
use Rattle.ttx_certify.specs.Verdicts.{IsVerdict, Means}
use Rattle.ttx_certify.specs.VerdictLines.{reason_text, verdict_line}
use Rattle.ttx_certify.specs.declared.all_reasons.PageReason.{PageReason}
use Rattle.ttx_certify.specs.declared.verdict.Verdict.{Verdict}

abbrev pub reason_line : Option Reason → List ℕ
reason_line None = []
reason_line (Some reason) = codes "no " ++ reason_text reason ++ 10 ∷ []

abbrev pub page_line : PageReason → List ℕ
page_line t = reason_line t.reason

abbrev pub page_lines : List PageReason → List ℕ
page_lines = flat_map page_line

abbrev pub has_reason : PageReason → Bool
has_reason t = is_some t.reason

abbrev pub reasons_in : List PageReason → ℕ
reasons_in = count_by has_reason

abbrev pub count_line : List PageReason → List ℕ
count_line told = codes "reasons " ++ decimal (reasons_in told) ++ codes " pages " ++ decimal (length told) ++ 10 ∷ []

abbrev pub all_text : CertificateFields → Verdict → List PageReason → List ℕ
all_text w verdict told = verdict_line w (length told) verdict ++ page_lines told ++ count_line told

-- the verdict on a cycle, the pages of a service and a certificate, the first reason of each page, and their text
pub record IsJudgedAll (slots : List (List ℕ)) (service : ServiceFields) (w : CertificateFields) (verdict : Verdict) (text : List ℕ) : Type 0 where
  pub exact : IsVerdict slots (pages_of service) (certificate_at w) verdict
  pub seen : Means slots (pages_of service) (certificate_at w) verdict
  pub told : List PageReason
  pub reasons : AreReasons slots (pages_of service) (certificate_at w) told
  pub text_is : text ≡ all_text w verdict told
