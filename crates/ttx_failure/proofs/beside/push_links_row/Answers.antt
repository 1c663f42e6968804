use Rattle.std.proofs.Common.{◌∙◌, ◌≡◌, ◌++◌, ◌*◌, ◌/◌, [], ap, length, string_bytes, subst, OnOk}
use Rattle.std.specs.Prelude.{codes, replicate, slice_index_or}
use Rattle.ttx_document.proofs.Joins.{joined, more}
use Rattle.ttx_failure.specs.Beside.{links_row, mark_text, both_text}
use Rattle.ttx_failure.proofs.beside.push_links_row.Goals as goal

pub returns : goal.returns
unfolding links_row
returns c =
    joined c.push_both.result _ _ _ (mark_text c.args.unlike ++ codes "    ") (both_text c.args.own.now c.args.shown.now) (more _ _ _ (mark_text c.args.unlike) (codes "    ") c.in_ok-push_mark.ensures c.in_ok-push_words.ensures)
    c.push_both.ensures
