use Rattle.ttx_plan.proofs.SubpageLists.{zero_each}
use Rattle.ttx_plan.proofs.subpage_turns.no_numbers.Goals as goal

pub returns-clause-zero : goal.returns-clause-zero
returns-clause-zero c = zero_each 2304
