use Rattle.ttx_cycle.proofs.GivenSlots.{none_is_given, one_more_is_given, all_are_given, fault_is_the_files}
use Rattle.ttx_cycle.proofs.laws.slots_are_given.Goals as goal

pub returns-clause-none : goal.returns-clause-none
returns-clause-none c = none_is_given

pub returns-clause-more : goal.returns-clause-more
returns-clause-more c = one_more_is_given

pub returns-clause-all : goal.returns-clause-all
returns-clause-all c = all_are_given

pub returns-clause-fault : goal.returns-clause-fault
returns-clause-fault c = fault_is_the_files
