use Rattle.std.proofs.Common.{◌≡◌, ◌++◌, flat_map}
use Rattle.toml.specs.View.{table_view}
use Rattle.ttx_author.specs.Options.{option_number}
use Rattle.ttx_desk.specs.Rows.{put_rows, row_mistakes, indices_from}
use Rattle.ttx_desk.proofs.rows.put_each.Given as goal

-- the rows that are left
abbrev pub invariant-loop-index : goal.invariant-loop-index
invariant-loop-index l = record {
  table : put_rows (option_number l.rows.option) l.rows.lines.now (table_view l.rows.table.now) (indices_from l.index) (table_view l.out)
      ≡ put_rows (option_number l.rows.option) l.rows.lines.now (table_view l.rows.table.now) (indices_from 0) (table_view l.initial.out);
  noted : l.mistakes.items ++ flat_map (row_mistakes l.rows.page (option_number l.rows.option) l.rows.lines.now (table_view l.rows.table.now)) (indices_from l.index)
      ≡ l.initial.mistakes.items ++ flat_map (row_mistakes l.rows.page (option_number l.rows.option) l.rows.lines.now (table_view l.rows.table.now)) (indices_from 0);
}
