use Rattle.std.proofs.Common.{◌≡◌, [], take}
use Rattle.ttx_certify.specs.walks.Passing.{Starts, walk_pages, walk_certificate}
use Rattle.ttx_certify.proofs.acceptance.first_pass.Given as goal

abbrev pub invariant-loop-i : goal.invariant-loop-i
invariant-loop-i l = record {
  stands : Starts l.initial.walk [] → Starts l.walk (take l.i l.slots);
  pages : walk_pages l.walk ≡ walk_pages l.initial.walk;
  certificate : walk_certificate l.walk ≡ walk_certificate l.initial.walk;
}
