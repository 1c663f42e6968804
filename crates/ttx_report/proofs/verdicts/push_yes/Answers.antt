use Rattle.std.proofs.Common.{◌∙◌, ◌≡◌, ◌++◌, ◌*◌, ◌/◌, [], ap, length, string_bytes, subst, OnOk}
use Rattle.std.specs.Prelude.{codes, replicate, slice_index_or}
use Rattle.ttx_document.proofs.Joins.{joined, more}
use Rattle.ttx_certificate.specs.Certificates.{fields_of}
use Rattle.ttx_report.specs.Verdicts.{yes_words, shows_text}
use Rattle.ttx_report.proofs.verdicts.push_yes.Goals as goal

pub returns : goal.returns
unfolding yes_words
returns c =
    joined c.push_words-2.result _ _ _ (codes "<b>Yes</b>: as long as this cycle is repeated unchanged, " ++ shows_text (fields_of c.args.certificate.now) c.args.pages) (codes ", and ever after, the header clock aside.") (more _ _ _ (codes "<b>Yes</b>: as long as this cycle is repeated unchanged, ") (shows_text (fields_of c.args.certificate.now) c.args.pages) c.in_ok-push_words.ensures c.in_ok-push_shows.ensures)
    c.push_words-2.ensures
