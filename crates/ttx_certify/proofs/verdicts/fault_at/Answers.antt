use Rattle.std.proofs.Common.{subst}
use Rattle.ttx_witness.specs.faults.Faults.{IsPageFault}
use Rattle.ttx_certify.specs.walks.Passing.{ended_pages, ended_certificate}
use Rattle.ttx_certify.proofs.PageByPage.{fault_from}
use Rattle.ttx_certify.proofs.verdicts.fault_at.Goals as goal

pub returns : goal.returns
returns c = λ y p is at.
    let ended = c.args.ended.now in
    let steady = subst (IsPageFault y (ended_pages ended) p) c.in_default.is (c.page_fault.ensures y p is at) in
    fault_from y (ended_pages ended) (ended_certificate ended) p steady c.witness_fault.result (c.witness_fault.ensures y p is at steady.header)
