use Rattle.std.proofs.Common.{◌≡◌, drop}
use Rattle.ttx_check.specs.PageWarnings.{has_stray}
use Rattle.ttx_check.proofs.rows.has_stray.Given as goal

abbrev pub invariant-loop-c : goal.invariant-loop-c
invariant-loop-c l = has_stray l.code l.opener (drop l.c-index l.row) ≡ has_stray l.code l.opener l.row
