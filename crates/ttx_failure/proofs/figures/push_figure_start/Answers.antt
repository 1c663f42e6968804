use Rattle.std.proofs.Common.{◌∙◌, ◌≡◌, ◌++◌, ◌*◌, ◌/◌, [], ap, length, string_bytes, subst, OnOk}
use Rattle.std.specs.Prelude.{codes, replicate, slice_index_or}
use Rattle.ttx_document.proofs.Joins.{joined, more}
use Rattle.ttx_failure.specs.Figures.{figure_start}
use Rattle.ttx_failure.proofs.figures.push_figure_start.Goals as goal

pub returns : goal.returns
unfolding figure_start
returns c =
    joined c.push_words-3.result _ _ _ (codes "<figure><figcaption>" ++ c.args.caption.now) (codes "</figcaption><div class=\"p\">") (more _ _ _ (codes "<figure><figcaption>") (c.args.caption.now) c.in_ok-push_words.ensures c.in_ok-push_words-2.ensures)
    c.push_words-3.ensures
