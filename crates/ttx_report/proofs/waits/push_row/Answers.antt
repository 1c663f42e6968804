use Rattle.std.proofs.Common.{◌∙◌, ◌≡◌, ◌++◌, ◌*◌, ◌/◌, [], ap, length, string_bytes, subst, OnOk}
use Rattle.std.specs.Prelude.{codes, replicate, slice_index_or}
use Rattle.ttx_document.proofs.Joins.{joined, more}
use Rattle.ttx_promise.specs.PromisedWaits.{is_late}
use Rattle.ttx_report.specs.Waits.{wait_row, told_cells, promise_words}
use Rattle.ttx_report.proofs.waits.push_row.Goals as goal

pub returns : goal.returns
unfolding wait_row
returns c =
    joined c.push_words-3.result _ _ _ (codes "<tr><td>" ++ told_cells c.args.one.told ++ codes "</td><td>" ++ promise_words c.args.one.promise (is_late c.args.one)) (codes "</td></tr>\n") (more _ _ _ (codes "<tr><td>" ++ told_cells c.args.one.told ++ codes "</td><td>") (promise_words c.args.one.promise (is_late c.args.one)) (more _ _ _ (codes "<tr><td>" ++ told_cells c.args.one.told) (codes "</td><td>") (more _ _ _ (codes "<tr><td>") (told_cells c.args.one.told) c.in_ok-push_words.ensures c.in_ok-push_cells.ensures) c.in_ok-push_words-2.ensures) (c.in_ok-push_promise.ensures ∙ ap (λ l. string_bytes c.push_words-2.new.text ++ promise_words c.args.one.promise l) c.is_late.ensures))
    c.push_words-3.ensures
