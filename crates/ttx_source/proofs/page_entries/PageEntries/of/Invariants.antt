use Rattle.std.proofs.Common.{◌≡◌, ◌<◌, ℕ, [], length, get_or, None}
use Rattle.toml.specs.View.{members_view}
use Rattle.ttx_source.specs.Accepted.{key_names}
use Rattle.ttx_source.proofs.RowTable.{seen}
use Rattle.ttx_source.proofs.RowValues.{last_member}
use Rattle.ttx_source.proofs.page_entries.PageEntries.of.Given as goal

-- the values so far are final unless one of the entries left has their key
abbrev pub invariant-loop-key : goal.invariant-loop-key
invariant-loop-key l = record {
  long : length l.values ≡ 28;
  found : (r : ℕ) → r < 28
      → last_member (get_or key_names r []) (members_view l.key-iterator) (seen (get_or l.values r None))
      ≡ last_member (get_or key_names r []) (members_view l.table.entries) None;
}
