use Rattle.std.proofs.Common.{◌≡◌, codes, Some, ◌∙◌, ap}
use Rattle.ttx_certificate.specs.Entries.{CertificateFields}
use Rattle.ttx_certificate.specs.CertificateTexts.{certificate_text, number_text, entries_text}
use Rattle.ttx_kinds.specs.Kinds.{kind_of}
use Rattle.ttx_kinds.specs.declared.kinds.Kind.TheVariants.{Certificate}
use Rattle.ttx_kinds.proofs.Titles.{titled}
use Rattle.ttx_kinds.proofs.laws.certificates_are_recognised.Goals as goal

recognised : (w : CertificateFields) → kind_of (certificate_text w) ≡ Some Certificate
recognised w = titled w.class
    (number_text (codes "lines") w.lines) (number_text (codes "repeat") w.repeat) (number_text (codes "deadline") w.deadline)
    (entries_text w.entries)

-- src/laws.rt:6:1
pub returns : goal.returns
returns c bytes w is_read = ap kind_of (c.accepted_texts_are_written.ensures bytes w is_read) ∙ recognised w
