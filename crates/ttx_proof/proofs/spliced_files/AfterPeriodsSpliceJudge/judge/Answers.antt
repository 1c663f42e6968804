use Rattle.std.proofs.Common.{refl}
use Rattle.ttx_proof.specs.SplicingFiles.{splice_in}
use Rattle.ttx_proof.proofs.spliced_files.AfterPeriodsSpliceJudge.judge.Goals as goal

pub returns : goal.returns
returns c = record {
  exact = c.sent_verdict-verdict.ensures.exact (splice_in c.args.six.now) refl refl c.in_ok-splice.ensures.exact;
  seen = c.sent_verdict-verdict.ensures.means (splice_in c.args.six.now) c.in_ok-splice.ensures.seen;
  line_is = c.in_ok-line.ensures;
}
