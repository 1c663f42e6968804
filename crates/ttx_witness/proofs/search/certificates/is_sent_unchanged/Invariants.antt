use Rattle.std.proofs.Common.{◌≡◌, ℕ, ◌<◌, slice_get, Some, None}
use Rattle.ttx_witness.specs.declared.faults.reason.PageFault.{PageFault}
use Rattle.ttx_witness.proofs.search.certificates.is_sent_unchanged.Given as goal

abbrev pub invariant-loop-index : goal.invariant-loop-index
invariant-loop-index l = record {
  none : (n : ℕ) (fault : PageFault) → n < l.index → slice_get l.faults n ≡ Some fault → fault.reason ≡ None;
}
