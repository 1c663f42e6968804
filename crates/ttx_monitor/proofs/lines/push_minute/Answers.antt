use Rattle.std.proofs.Common.{rules, append_assoc}
use Rattle.ttx_monitor.proofs.lines.push_minute.Goals as goal

pub returns : goal.returns
returns c = search (rules, append_assoc)
