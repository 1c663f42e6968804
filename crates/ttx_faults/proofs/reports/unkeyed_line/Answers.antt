use Rattle.std.proofs.Common.{rules, append_assoc}
use Rattle.ttx_faults.proofs.reports.unkeyed_line.Goals as goal

pub returns : goal.returns
returns c = search (rules, append_assoc)
