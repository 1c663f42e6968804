use Rattle.std.proofs.Common.{◌≡◌, ◌+◌, ◌%◌, ◌∙◌, false, sym, below_more}
use Rattle.ttx_plan.specs.Cursors.{is_free}
use Rattle.ttx_plan.proofs.FirstInOrder.{find_order}
use Rattle.ttx_plan.proofs.cursors.Cursors.turn.Goals as goal

pub returns-then-is_ready-clause-turn : goal.returns-then-is_ready-clause-turn
returns-then-is_ready-clause-turn c =
    sym (find_order (is_free c.args.queues.now c.args.self.now c.args.at) c.args.self.now.from c.loop-step.step c.loop-step-test.true
    c.loop-step.invariant (sym c.is_ready.ensures ∙ c.if-is_ready.true))

pub loop-step-preserved : goal.loop-step-preserved
loop-step-preserved c =
    let free = is_free c.args.queues.now c.args.self.now c.args.at in
    below_more (λ k. free ((c.args.self.now.from + k) % 8) ≡ false) c.loop-step.step c.loop-step.invariant
    (sym c.is_ready.ensures ∙ c.if-is_ready.false)
