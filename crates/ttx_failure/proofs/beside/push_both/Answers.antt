use Rattle.std.proofs.Common.{◌∙◌, ◌≡◌, ◌++◌, ◌*◌, ◌/◌, [], ap, length, string_bytes, subst, OnOk}
use Rattle.std.specs.Prelude.{codes, replicate, slice_index_or}
use Rattle.ttx_document.proofs.Joins.{joined, more}
use Rattle.ttx_failure.specs.Beside.{both_text, padding}
use Rattle.ttx_failure.proofs.beside.push_both.Goals as goal

pub returns : goal.returns
unfolding both_text
returns c =
    joined c.push_words-4.result _ _ _ (c.args.own.now ++ padding c.args.own.now ++ codes " | " ++ c.args.shown.now) (codes "\n") (more _ _ _ (c.args.own.now ++ padding c.args.own.now ++ codes " | ") (c.args.shown.now) (more _ _ _ (c.args.own.now ++ padding c.args.own.now) (codes " | ") (more _ _ _ (c.args.own.now) (padding c.args.own.now) c.in_ok-push_words.ensures c.in_ok-push_padding.ensures) c.in_ok-push_words-2.ensures) c.in_ok-push_words-3.ensures)
    c.push_words-4.ensures
