use Rattle.std.proofs.Common.{◌∙◌, ap}
use Rattle.toml.specs.View.{members_view}
use Rattle.ttx_desk.proofs.Members.{members-without}
use Rattle.ttx_desk.proofs.tables.take_out.Goals as goal

pub returns : goal.returns
returns c = ap members_view c.remove.ensures.entries ∙ members-without c.args.key.now c.args.table.now.entries
