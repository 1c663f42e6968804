use Rattle.ttx_press.proofs.ShareBounds.{share_leaves, share_is_enough}
use Rattle.ttx_press.proofs.shared_time.gap_share.Goals as goal

pub returns-clause-room : goal.returns-clause-room
returns-clause-room c = share_is_enough c.args.within c.args.deadline c.args.gap c.requires.some c.requires.enough

pub returns-clause-rest : goal.returns-clause-rest
returns-clause-rest c = share_leaves c.args.within c.args.deadline c.args.gap c.requires.enough
