use Rattle.std.proofs.Common.{◌++◌}
use Rattle.std.specs.Prelude.{codes}
use Rattle.ttx_document.proofs.Joins.{joined, more}
use Rattle.std.specs.Fmt.{decimal}
use Rattle.ttx_report.specs.Files.{size_cell}
use Rattle.ttx_report.proofs.marks.push_size.Goals as goal

pub returns : goal.returns
unfolding size_cell
returns c =
    joined c.push_words-3.result _ _ _ (codes "</td><td>" ++ c.args.size.now.unit.now ++ decimal c.args.size.now.count) (codes "</td><td><code>") (more _ _ _ (codes "</td><td>" ++ c.args.size.now.unit.now) (decimal c.args.size.now.count) (more _ _ _ (codes "</td><td>") (c.args.size.now.unit.now) c.in_ok-push_words.ensures c.in_ok-push_words-2.ensures) c.in_ok-push_decimal.ensures)
    c.push_words-3.ensures
