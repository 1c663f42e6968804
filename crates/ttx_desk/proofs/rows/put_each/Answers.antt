use Rattle.std.proofs.Common.{◌∙◌, ◌+◌, ◌++◌, ℕ, List, flat_map, ap, sym, arith}
use Rattle.toml.specs.View.{table_view}
use Rattle.ttx_author.specs.Options.{option_number}
use Rattle.ttx_desk.specs.Rows.{put_rows, row_mistakes, indices_from}
use Rattle.ttx_desk.specs.declared.mistakes.Mistake.{Mistake}
use Rattle.ttx_desk.proofs.Indices.{put_rows-more, put_rows-end, noted-more, noted-end}
use Rattle.ttx_desk.proofs.rows.put_each.Goals as goal

pub loop-index-preserved : goal.loop-index-preserved
loop-index-preserved c =
    let rows = c.args.rows.now in
    let option = option_number rows.option in
    let lines = rows.lines.now in
    let table = table_view rows.table.now in
    let i = c.loop-index.index in
    let f : ℕ → List Mistake = row_mistakes rows.page option lines table in
    record {
      table =
          ap (put_rows option lines table (indices_from (i + 1))) c.in_ok-put_next.ensures.table
          ∙ sym (put_rows-more option i lines table (table_view c.loop-index.out) (omega arith)) ∙ c.loop-index.invariant.table;
      noted =
          ap (λ ms. ms ++ flat_map f (indices_from (i + 1))) c.in_ok-put_next.ensures.mistakes
          ∙ sym (noted-more f i c.loop-index.mistakes.items (omega arith)) ∙ c.loop-index.invariant.noted;
    }

pub returns-clause-table : goal.returns-clause-table
returns-clause-table c =
    let rows = c.args.rows.now in
    sym (put_rows-end (option_number rows.option) c.loop-index.index rows.lines.now (table_view rows.table.now) (table_view c.loop-index.out) (omega arith))
    ∙ c.loop-index.invariant.table

pub returns-clause-mistakes : goal.returns-clause-mistakes
returns-clause-mistakes c =
    let rows = c.args.rows.now in
    let f : ℕ → List Mistake = row_mistakes rows.page (option_number rows.option) rows.lines.now (table_view rows.table.now) in
    sym (noted-end f c.loop-index.index c.loop-index.mistakes.items (omega arith)) ∙ c.loop-index.invariant.noted
