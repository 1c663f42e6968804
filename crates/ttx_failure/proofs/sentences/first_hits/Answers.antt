use Rattle.std.proofs.Common.{arith, sym}
use Rattle.std.proofs.lemmas.List.{take_all}
use Rattle.ttx_failure.proofs.sentences.first_hits.Goals as goal

pub returns-then-hits-le-MOST_LISTED : goal.returns-then-hits-le-MOST_LISTED
returns-then-hits-le-MOST_LISTED c = sym (take_all 20 c.args.hits.now (omega arith))
