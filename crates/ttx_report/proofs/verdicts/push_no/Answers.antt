use Rattle.std.proofs.Common.{◌∙◌, ◌≡◌, ◌++◌, ◌*◌, ◌/◌, [], ap, length, string_bytes, subst, OnOk}
use Rattle.std.specs.Prelude.{codes, replicate, slice_index_or}
use Rattle.ttx_document.proofs.Joins.{joined, more}
use Rattle.ttx_certificate.specs.Certificates.{fields_of}
use Rattle.ttx_report.specs.Verdicts.{no_words, shows_text}
use Rattle.ttx_report.proofs.verdicts.push_no.Goals as goal

pub returns : goal.returns
unfolding no_words
returns c =
    joined c.push_words-2.result _ _ _ (codes "<b>No</b>: it is not certain that " ++ shows_text (fields_of c.args.certificate.now) c.args.pages) (codes ". The line above gives the first reason, which ttx explain explains. It does not prove a failure: ttx refute looks for one.") (more _ _ _ (codes "<b>No</b>: it is not certain that ") (shows_text (fields_of c.args.certificate.now) c.args.pages) c.in_ok-push_words.ensures c.in_ok-push_shows.ensures)
    c.push_words-2.ensures
