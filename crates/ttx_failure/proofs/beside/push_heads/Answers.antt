use Rattle.std.proofs.Common.{◌∙◌, ◌≡◌, ◌++◌, ◌*◌, ◌/◌, [], ap, length, string_bytes, subst, OnOk}
use Rattle.std.specs.Prelude.{codes, replicate, slice_index_or}
use Rattle.ttx_document.proofs.Joins.{joined, more}
use Rattle.ttx_failure.specs.Beside.{heads_text}
use Rattle.ttx_failure.proofs.beside.push_heads.Goals as goal

pub returns : goal.returns
unfolding heads_text
returns c =
    joined c.push_words-2.result _ _ _ (codes "\n      as authored" ++ replicate 29 32) (codes " | as the receiver shows it\n") (more _ _ _ (codes "\n      as authored") (replicate 29 32) c.in_ok-push_words.ensures c.in_ok-push_spaces.ensures)
    c.push_words-2.ensures
