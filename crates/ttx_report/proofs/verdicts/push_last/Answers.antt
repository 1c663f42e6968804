use Rattle.std.specs.Prelude.{codes, ◌++◌}
use Rattle.ttx_document.proofs.Joins.{joined, more}
use Rattle.ttx_report.specs.Verdicts.{last_rows, loss_words}
use Rattle.ttx_report.proofs.verdicts.push_last.Goals as goal

pub returns : goal.returns
unfolding last_rows
returns c =
    joined c.push_words-2.result _ _ _ (codes "<tr><td>loses page headers</td><td>" ++ loss_words c.args.class) (codes "</td></tr>\n<tr><td>checks a page by its check word</td><td>no</td></tr></table>\n")
    (more _ _ _ (codes "<tr><td>loses page headers</td><td>") (loss_words c.args.class) c.in_ok-push_words.ensures c.in_ok-push_loss.ensures)
    c.push_words-2.ensures
