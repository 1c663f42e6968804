use Rattle.std.proofs.Common.{◌∙◌, ◌≡◌, ◌++◌, ◌*◌, ◌/◌, [], ap, length, string_bytes, subst, OnOk}
use Rattle.std.specs.Prelude.{codes, replicate, slice_index_or}
use Rattle.ttx_document.proofs.Joins.{joined, more}
use Rattle.ttx_failure.specs.Sentences.{claim_text, page_name}
use Rattle.ttx_failure.proofs.sentences.push_claim.Goals as goal

pub returns : goal.returns
unfolding claim_text
returns c =
    joined c.push_words-2.result _ _ _ (codes "A receiver that keeps all rules does not show page " ++ page_name c.args.id) (codes " as it was authored.") (more _ _ _ (codes "A receiver that keeps all rules does not show page ") (page_name c.args.id) c.in_ok-push_words.ensures c.in_ok-push_name.ensures)
    c.push_words-2.ensures
