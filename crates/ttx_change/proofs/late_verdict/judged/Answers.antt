use Rattle.std.proofs.Common.{refl, sym, subst}
use Rattle.ttx_proof.specs.SplicingFiles.{splice_in}
use Rattle.ttx_change.specs.LateSplices.{IsJudged}
use Rattle.ttx_change.proofs.late_verdict.judged.Goals as goal

pub returns-in-Some-clause-exact : goal.returns-in-Some-clause-exact
returns-in-Some-clause-exact c =
    let s = splice_in c.args.six.now in
    subst (λ x. IsJudged s x c.sent_verdict.result) (sym c.in-Some.is) (c.sent_verdict.ensures.exact s refl refl c.in_ok-verdict.ensures.exact)

pub returns-in-Some-clause-means : goal.returns-in-Some-clause-means
returns-in-Some-clause-means c = c.sent_verdict.ensures.means (splice_in c.args.six.now) c.in_ok-verdict.ensures.seen

pub returns-in-None-clause-exact : goal.returns-in-None-clause-exact
returns-in-None-clause-exact c =
    let s = splice_in c.args.six.now in
    subst (λ x. IsJudged s x c.at_any_time.result) (sym c.in-None.is) (c.at_any_time.ensures.exact s c.in_ok-verdict.ensures.exact)

pub returns-in-None-clause-means : goal.returns-in-None-clause-means
returns-in-None-clause-means c = c.at_any_time.ensures.means (splice_in c.args.six.now) c.in_ok-verdict.ensures.seen
