use Rattle.std.proofs.Common.{◌≡◌, ◌<◌, ℕ, [], map, drop, take, length, get_or}
use Rattle.ttx_page.specs.Pages.{IsRow}
use Rattle.ttx_source.specs.Keys.{rows_of}
use Rattle.ttx_source.proofs.Sequences.{then}
use Rattle.ttx_source.proofs.RowTable.{seen}
use Rattle.ttx_source.proofs.rows.write_values.Given as goal

-- the rows so far, and then those of the values left
abbrev pub invariant-loop-index : goal.invariant-loop-index
invariant-loop-index l = record {
  long : length l.rows ≡ 24;
  rows : (r : ℕ) → r < l.index → IsRow (get_or l.rows r []);
  so_far : rows_of (map seen l.values) ≡ then (take l.index l.rows) (rows_of (map seen (drop l.index l.values)));
}
