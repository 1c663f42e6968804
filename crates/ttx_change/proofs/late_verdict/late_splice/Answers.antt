use Rattle.std.proofs.Common.{subst}
use Rattle.ttx_proof.specs.SentVerdicts.{SentMeans}
use Rattle.ttx_proof.specs.SplicingFiles.{splice_in}
use Rattle.ttx_change.specs.LateSplices.{IsJudged}
use Rattle.ttx_change.proofs.LateVerdicts.{means_with}
use Rattle.ttx_change.proofs.late_verdict.late_splice.Goals as goal

pub returns-in-Yes-clause-seen : goal.returns-in-Yes-clause-seen
returns-in-Yes-clause-seen c =
    let s = splice_in c.args.six.now in
    means_with c.changes_are_whole.ensures s c.has_ranges.ensures c.args.sent
    (subst (IsJudged s c.args.sent) c.in-Yes.is c.in_ok-verdict.ensures.exact)
    (subst (SentMeans s) c.in-Yes.is c.in_ok-verdict.ensures.means) c.left_open.result c.left_open.ensures
