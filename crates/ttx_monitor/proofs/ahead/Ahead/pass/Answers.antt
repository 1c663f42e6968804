use Rattle.std.proofs.Common.{drop, sym, ap, ◌∙◌}
use Rattle.std.proofs.lemmas.List.{drop-drop}
use Rattle.ttx_monitor.proofs.ahead.Ahead.pass.Goals as goal

pub returns-then-self-len-clause-waiting : goal.returns-then-self-len-clause-waiting
returns-then-self-len-clause-waiting c = λ slot more e. sym (drop-drop 1 c.args.self.now.at c.args.self.now.slots.items) ∙ ap (drop 1) e
