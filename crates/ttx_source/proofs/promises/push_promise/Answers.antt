use Rattle.ttx_source.proofs.PromiseArray.{no_promise}
use Rattle.ttx_source.proofs.promises.push_promise.Goals as goal

pub returns-in-None : goal.returns-in-None
returns-in-None c = rw c.in-None.is (no_promise c.args.promises.now.items)
