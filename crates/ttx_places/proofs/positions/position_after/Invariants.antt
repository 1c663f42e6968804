use Rattle.std.proofs.Common.{◌≡◌, ◌+◌, ◌≤◌, drop, suc}
use Rattle.ttx_places.specs.Positions.{is_line_feed, how_many, line_after}
use Rattle.ttx_places.proofs.Columns.{ends}
use Rattle.ttx_places.proofs.positions.position_after.Given as goal

abbrev pub invariant-loop-byte : goal.invariant-loop-byte
invariant-loop-byte l = record {
  most_lines : l.at.line ≤ suc l.byte-index;
  most_columns : l.at.column ≤ suc l.byte-index;
  line : l.at.line + how_many is_line_feed (drop l.byte-index l.text) ≡ line_after l.text;
  column : ends l.at.column (drop l.byte-index l.text) ≡ ends 1 l.text;
}
