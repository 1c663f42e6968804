use Rattle.std.proofs.Common.{◌∙◌, ◌≡◌, ◌++◌, ◌*◌, ◌/◌, [], ap, length, string_bytes, subst, OnOk}
use Rattle.std.specs.Prelude.{codes, replicate, slice_index_or}
use Rattle.ttx_document.proofs.Joins.{joined, more}
use Rattle.ttx_failure.specs.Figures.{figures_html, marked_html}
use Rattle.ttx_failure.proofs.figures.push_figures.Goals as goal

pub returns : goal.returns
unfolding figures_html
returns c =
    joined c.push_words-2.result _ _ _ (codes "<div class=\"b\">" ++ marked_html (codes "As authored") c.args.own.now c.args.shown.now c.args.own.now ++ marked_html (codes "As the receiver shows it") c.args.shown.now c.args.shown.now c.args.own.now) (codes "</div>\n") (more _ _ _ (codes "<div class=\"b\">" ++ marked_html (codes "As authored") c.args.own.now c.args.shown.now c.args.own.now) (marked_html (codes "As the receiver shows it") c.args.shown.now c.args.shown.now c.args.own.now) (more _ _ _ (codes "<div class=\"b\">") (marked_html (codes "As authored") c.args.own.now c.args.shown.now c.args.own.now) c.in_ok-push_words.ensures c.in_ok-push_marked.ensures) c.in_ok-push_marked-2.ensures)
    c.push_words-2.ensures
