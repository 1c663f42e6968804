use Rattle.std.proofs.Common.{arith, sym}
use Rattle.std.proofs.lemmas.List.{take_all}
use Rattle.ttx_failure.proofs.sentences.first_choices.Goals as goal

pub returns-then-taken-le-MOST_LISTED : goal.returns-then-taken-le-MOST_LISTED
returns-then-taken-le-MOST_LISTED c = sym (take_all 20 c.args.taken.now (omega arith))
