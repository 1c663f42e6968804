use Rattle.std.proofs.Common.{◌∙◌, ◌≡◌, ◌++◌, ◌*◌, ◌/◌, [], ap, length, string_bytes, subst, OnOk}
use Rattle.std.specs.Prelude.{codes, replicate, slice_index_or}
use Rattle.ttx_document.proofs.Joins.{joined, more}
use Rattle.ttx_failure.specs.Sentences.{number_setting, number_name}
use Rattle.ttx_failure.proofs.sentences.push_number_setting.Goals as goal

pub returns : goal.returns
unfolding number_setting
returns c =
    joined c.push_words-2.result _ _ _ (codes "It is set to page number " ++ number_name c.args.id) (codes ", whatever the subpage.") (more _ _ _ (codes "It is set to page number ") (number_name c.args.id) c.in_ok-push_words.ensures c.in_ok-push_number.ensures)
    c.push_words-2.ensures
