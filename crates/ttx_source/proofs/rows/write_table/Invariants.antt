use Rattle.std.proofs.Common.{◌≡◌, ◌<◌, ℕ, [], length, get_or, None}
use Rattle.toml.specs.View.{members_view}
use Rattle.ttx_source.specs.Keys.{row_keys, is_row_key, keys_pass}
use Rattle.ttx_source.proofs.RowTable.{seen}
use Rattle.ttx_source.proofs.RowValues.{last_member}
use Rattle.ttx_source.proofs.rows.write_table.Given as goal

-- the keys so far are numbers of rows, and the values so far are final unless one of the entries left has their key
abbrev pub invariant-loop-key : goal.invariant-loop-key
invariant-loop-key l = record {
  long : length l.values ≡ 24;
  keys : keys_pass is_row_key (members_view l.table.entries) ≡ keys_pass is_row_key (members_view l.key-iterator);
  found : (r : ℕ) → r < 24
      → last_member (get_or row_keys r []) (members_view l.key-iterator) (seen (get_or l.values r None))
      ≡ last_member (get_or row_keys r []) (members_view l.table.entries) None;
}
