use Rattle.std.proofs.Common.{sym, append-nil, arith}
use Rattle.std.proofs.lemmas.Grind.{common_steps}
use Rattle.ttx_check.proofs.traffic.push_most.Goals as goal

pub loop-above-init : goal.loop-above-init
loop-above-init c = sym (append-nil c.args.found.now.items)

pub loop-above-preserved : goal.loop-above-preserved
loop-above-preserved c = grind (arith, common_steps, c.is_most.ensures, c.in_ok-push_if.ensures, c.loop-above.invariant)
