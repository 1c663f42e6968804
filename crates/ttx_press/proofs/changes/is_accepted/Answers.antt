use Rattle.std.proofs.Common.{subst}
use Rattle.ttx_playout.specs.Schedules.{change}
use Rattle.ttx_playout.specs.Takeovers.{edition_of, IsChangeVerdict}
use Rattle.ttx_press.proofs.Decisions.{says_no}
use Rattle.ttx_press.proofs.RefusedChanges.{not_accepted}
use Rattle.ttx_press.proofs.changes.is_accepted.Goals as goal

pub returns-in-Ok-No : goal.returns-in-Ok-No
returns-in-Ok-No c =
    let old = edition_of c.args.on_air.now in
    let new = edition_of c.args.next.now in
    let refused = subst (IsChangeVerdict old new) c.in-Ok-No.field-0-is c.in-Ok-No.ensures in
    says_no (not_accepted (change old new) c.in-Ok-No.field-0-0 refused)
