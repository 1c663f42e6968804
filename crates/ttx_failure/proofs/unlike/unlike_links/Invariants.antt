use Rattle.std.proofs.Common.{◌≡◌, ◌≤◌, drop, length}
use Rattle.ttx_failure.specs.Unlike.{unlike_links}
use Rattle.ttx_failure.proofs.unlike.unlike_links.Given as goal

abbrev pub invariant-loop-i : goal.invariant-loop-i
invariant-loop-i l = unlike_links (drop l.i l.shown) (drop l.i l.own) ≡ unlike_links l.shown l.own
