use Rattle.std.proofs.Common.{sym, ap}
use Rattle.ttx_faults.specs.Reports.{extract_status}
use Rattle.ttx_faults.proofs.reports.extract_status.Goals as goal

pub returns-in-NoMemory : goal.returns-in-NoMemory
returns-in-NoMemory c = ap (λ fault. extract_status fault) (sym c.in-NoMemory.is)
