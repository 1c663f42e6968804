use Rattle.std.proofs.Common.{◌∙◌, ◌<◌, ◌≤◌, length, sym, arith, rules}
use Rattle.std.proofs.lemmas.Result.{err_from_is_err_and}
use Rattle.std.proofs.lemmas.List.{take_all}
use Rattle.ttx_source.proofs.RowTable.{rows_more, rows_fault, rows_end, values_drop, values_end, front_set, rows_set}
use Rattle.ttx_source.proofs.rows.write_values.Goals as goal

pub returns-in_err-write_row-clause-value : goal.returns-in_err-write_row-clause-value
returns-in_err-write_row-clause-value c =
    let p = err_from_is_err_and c.from_residual.result c.from_residual.ensures.1 in
    let here : c.loop-index.index < length c.args.values.now = omega arith in
    let rest = values_drop c.args.values.now c.loop-index.index c.index-values-index.result here in
    rw (p.1, p.2) (sym (c.loop-index.invariant.so_far ∙ rw rest (rows_fault _ _ _ _ (sym c.in_err-write_row.ensures.value))))

pub loop-index-preserved : goal.loop-index-preserved
loop-index-preserved c = record {
  long = search rules;
  rows = rows_set c.loop-index.rows c.loop-index.index c.write_row.new.row (omega arith) c.loop-index.invariant.rows
      c.in_ok-write_row.ensures.row;
  so_far =
      let here : c.loop-index.index < length c.args.values.now = omega arith in
      let rest = values_drop c.args.values.now c.loop-index.index c.index-values-index.result here in
      rw (front_set c.loop-index.rows c.loop-index.index c.write_row.new.row (omega arith))
      (c.loop-index.invariant.so_far ∙ rw rest (rows_more _ _ _ _ (sym c.in_ok-write_row.ensures.value)));
}

pub returns-clause-value : goal.returns-clause-value
returns-clause-value c =
    let all : length c.args.values.now ≤ c.loop-index.index = omega arith in
    sym (c.loop-index.invariant.so_far ∙ rw
    (values_end c.args.values.now c.loop-index.index all, take_all c.loop-index.index c.loop-index.rows (omega arith))
    (rows_end _))
