use Rattle.ttx_playout.specs.Takeovers.{edition_of}
use Rattle.ttx_press.proofs.Decisions.{says_no}
use Rattle.ttx_press.proofs.RefusedChanges.{not_left}
use Rattle.ttx_press.proofs.changes.may_follow.Goals as goal

pub returns-in_default : goal.returns-in_default
returns-in_default c =
    let old = edition_of c.args.on_air.now in
    let new = edition_of c.args.next.now in
    says_no (λ follows. not_left c.args.receivers old new c.left_open.result c.in_default.not-Yes c.left_open.ensures follows.1)
