use Rattle.std.proofs.Common.{sym}
use Rattle.ttx_source.proofs.LinkArray.{count-view}
use Rattle.ttx_source.proofs.links.count.Goals as goal

pub returns-clause-count : goal.returns-clause-count
returns-clause-count c = sym (count-view c.args.values.now)
