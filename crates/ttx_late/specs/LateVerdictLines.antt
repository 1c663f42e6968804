-- The line of a verdict for receivers that may show pages late (profile): words and numbers separated by one space, ended by 0A.
--
--   late_text               a yes, with the slots after the deadline
--   never_shown_text        a rejection for a header that is not followed by another page number
--   late_verdict_line       the line
use Rattle.std.specs.Prelude.{ℕ, List, [], ◌∷◌, ◌++◌, codes}
use Rattle.std.specs.Fmt.{decimal}
use Rattle.ttx_header.specs.Ids.{Id}
use Rattle.ttx_certificate.specs.Entries.{CertificateFields}
use Rattle.ttx_certify.specs.VerdictLines.{slot_words, yes_text, verdict_line}
use Rattle.ttx_certify.specs.declared.verdict.Verdict.TheVariants as certifier
use Rattle.ttx_late.specs.declared.verdict.LateVerdict.{LateVerdict}
use Rattle.ttx_late.specs.declared.verdict.LateVerdict.TheVariants.{Yes, No, NeverShown}

abbrev pub late_text : CertificateFields → ℕ → ℕ → List ℕ
late_text w pages gap = yes_text w pages ++ codes " late " ++ decimal gap ++ 10 ∷ []

abbrev pub never_shown_text : Id → ℕ → List ℕ
never_shown_text page slot = slot_words (codes "no 13 never-shown") page slot ++ 10 ∷ []

-- the verdict on this many pages; a rejection for reasons 1 to 12 has the same line as without late receivers
abbrev pub late_verdict_line : CertificateFields → ℕ → LateVerdict → List ℕ
late_verdict_line w pages (Yes gap) = late_text w pages gap
late_verdict_line w pages (No reason) = verdict_line w pages (certifier.No reason)
late_verdict_line w pages (NeverShown page slot) = never_shown_text page slot
