use Rattle.std.proofs.Common.{◌≡◌, [], take}
use Rattle.ttx_certify.specs.walks.Passing.{Stands, second_pages, second_certificate}
use Rattle.ttx_certify.proofs.acceptance.second_pass.Given as goal

abbrev pub invariant-loop-i : goal.invariant-loop-i
invariant-loop-i l = record {
  stands : Stands l.initial.second l.slots [] → Stands l.second l.slots (take l.i l.slots);
  pages : second_pages l.second ≡ second_pages l.initial.second;
  certificate : second_certificate l.second ≡ second_certificate l.initial.second;
}
