use Rattle.std.proofs.Common.{◌∙◌, ◌≡◌, ◌++◌, ◌*◌, ◌/◌, [], ap, length, string_bytes, subst, OnOk}
use Rattle.std.specs.Prelude.{codes, replicate, slice_index_or}
use Rattle.ttx_document.proofs.Joins.{joined, more}
use Rattle.ttx_failure.specs.Sentences.{page_setting, page_name}
use Rattle.ttx_failure.proofs.sentences.push_page_setting.Goals as goal

pub returns : goal.returns
unfolding page_setting
returns c =
    joined c.push_words-2.result _ _ _ (codes "It is set to page " ++ page_name c.args.id) (codes ".") (more _ _ _ (codes "It is set to page ") (page_name c.args.id) c.in_ok-push_words.ensures c.in_ok-push_name.ensures)
    c.push_words-2.ensures
