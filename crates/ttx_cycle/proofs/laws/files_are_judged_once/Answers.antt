use Rattle.ttx_cycle.proofs.JudgedOnce.{files_are_judged_once, longest_is_not_too_long}
use Rattle.ttx_cycle.proofs.laws.files_are_judged_once.Goals as goal

pub returns-clause-once : goal.returns-clause-once
returns-clause-once c = files_are_judged_once

pub returns-clause-longest : goal.returns-clause-longest
returns-clause-longest c = longest_is_not_too_long
