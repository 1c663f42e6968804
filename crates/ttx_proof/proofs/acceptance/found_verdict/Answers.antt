use Rattle.std.proofs.Common.{subst}
use Rattle.ttx_proof.specs.Splicing.{splice_between, TellsSeams, TellsLates}
use Rattle.ttx_proof.proofs.VerdictOfFindings.{seam_refused, late_refused, accepted}
use Rattle.ttx_proof.proofs.acceptance.found_verdict.Goals as goal

pub returns-in-Some : goal.returns-in-Some
returns-in-Some c = λ known.
    let s = splice_between c.args.sides.now in
    seam_refused s known c.in-Some.reason (subst (TellsSeams s) c.in-Some.is c.find_seam.ensures)

pub returns-in-Some-2 : goal.returns-in-Some-2
returns-in-Some-2 c = λ known.
    let s = splice_between c.args.sides.now in
    late_refused s known (subst (TellsSeams s) c.in_default.is c.find_seam.ensures) c.in-Some-2.reason
    (subst (TellsLates s) c.in-Some-2.is (c.in_ok-reason.ensures known))

pub returns-in-None : goal.returns-in-None
returns-in-None c = λ known.
    let s = splice_between c.args.sides.now in
    accepted s known (subst (TellsSeams s) c.in_default.is c.find_seam.ensures) (subst (TellsLates s) c.in-None.is (c.in_ok-reason.ensures known))
