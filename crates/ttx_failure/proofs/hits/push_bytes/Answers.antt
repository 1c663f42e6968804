use Rattle.std.proofs.Common.{◌∙◌, ◌≡◌, ◌++◌, ◌*◌, ◌/◌, [], ap, length, string_bytes, subst, OnOk}
use Rattle.std.specs.Prelude.{codes, replicate, slice_index_or}
use Rattle.ttx_document.proofs.Joins.{joined, more}
use Rattle.ttx_digits.specs.Digits.{hex_byte}
use Rattle.ttx_failure.specs.Hits.{bytes_text}
use Rattle.ttx_failure.proofs.hits.push_bytes.Goals as goal

pub returns : goal.returns
unfolding bytes_text
returns c =
    joined c.push_byte-2.result _ _ _ (codes ": sent " ++ hex_byte c.args.sent ++ codes ", received ") (hex_byte c.args.received) (more _ _ _ (codes ": sent " ++ hex_byte c.args.sent) (codes ", received ") (more _ _ _ (codes ": sent ") (hex_byte c.args.sent) c.in_ok-push_words.ensures c.in_ok-push_byte.ensures) c.in_ok-push_words-2.ensures)
    c.push_byte-2.ensures
