use Rattle.std.proofs.Common.{◌≡◌, ◌≤◌, length}
use Rattle.ttx_extract.proofs.SameLists.{SameBefore}
use Rattle.ttx_extract.proofs.drafts.same_rows.Given as goal

abbrev pub invariant-loop-i : goal.invariant-loop-i
invariant-loop-i l = record {
  a : length l.a ≡ 24;
  b : length l.b ≡ 24;
  within : l.i ≤ 24;
  same : SameBefore l.a l.b l.i;
}
