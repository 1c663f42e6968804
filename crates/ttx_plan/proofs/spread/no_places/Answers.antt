use Rattle.ttx_plan.proofs.SubpageLists.{zero_each}
use Rattle.ttx_plan.proofs.spread.no_places.Goals as goal

pub returns-clause-zero : goal.returns-clause-zero
returns-clause-zero c = zero_each 2000
