use Rattle.std.proofs.Common.{subst}
use Rattle.ttx_playout.specs.Schedules.{change}
use Rattle.ttx_playout.specs.Takeovers.{edition_of}
use Rattle.ttx_change.specs.LateSplices.{TellsOpen}
use Rattle.ttx_change.proofs.editions.open_between.Goals as goal

pub returns : goal.returns
returns c =
    let s = change (edition_of c.args.current.now) (edition_of c.args.next.now) in
    subst (λ ps. TellsOpen (record s { old_pages = ps }) c.open_at.result) c.pages.ensures.value (c.open_at.ensures s)
