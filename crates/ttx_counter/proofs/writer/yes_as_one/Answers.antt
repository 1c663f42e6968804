use Rattle.std.proofs.Common.{sym, ap}
use Rattle.ttx_counter.specs.CounterTexts.{yes_as_one}
use Rattle.ttx_counter.proofs.writer.yes_as_one.Goals as goal

pub returns-then-yes : goal.returns-then-yes
returns-then-yes c = sym (ap yes_as_one c.if-yes.true)

pub returns-else-yes : goal.returns-else-yes
returns-else-yes c = sym (ap yes_as_one c.if-yes.false)
