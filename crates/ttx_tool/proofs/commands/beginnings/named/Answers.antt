use Rattle.jiff.specs.Words.{plain_zone}
use Rattle.ttx_tool.proofs.BegunMoments.{begins_at}
use Rattle.ttx_tool.proofs.commands.beginnings.named.Goals as goal

pub returns : goal.returns
returns c = begins_at (plain_zone c.args.zone.now) c.args.text.now c.in-Some.instant c.moment_of.result c.in-Some.ensures c.moment_of.ensures
