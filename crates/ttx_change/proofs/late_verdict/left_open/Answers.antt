use Rattle.std.proofs.Common.{subst}
use Rattle.ttx_proof.specs.SplicingFiles.{splice_in}
use Rattle.ttx_change.specs.LateSplices.{TellsOpen}
use Rattle.ttx_change.proofs.late_verdict.left_open.Goals as goal

pub returns : goal.returns
returns c =
    let s = splice_in c.args.six.now in
    subst (λ ps. TellsOpen (record s { old_pages = ps }) c.open_at.result) c.pages-pages.ensures.value (c.open_at.ensures s)
