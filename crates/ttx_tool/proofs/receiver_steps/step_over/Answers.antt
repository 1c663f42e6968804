use Rattle.std.proofs.Common.{◌≡◌, ◌+◌, ◌<◌, ◌%◌, ◌∙◌, ap, length, arith}
use Rattle.ttx_tool.proofs.Heard.{hears_more, next_more, next_inside, next_round}
use Rattle.ttx_tool.proofs.receiver_steps.step_over.Goals as goal
use Rattle.ttx_tool.proofs.receiver_steps.step_over.Goals.{then-at-slots, else-at-slots}

pub loop-preserved : goal.loop-preserved
loop-preserved g c =
    let i = c.loop.invariant in
    let n = length c.args.slots.now in
    let before = c.args.start + c.loop.counter in
    let inside : c.loop.at < n = omega arith in
    let one_more : before + 1 ≡ c.args.start + (c.loop.counter + 1) = omega arith in
    let place : c.if-at-slots.at ≡ (before + 1) % n =
    elim c.if-at-slots.branch [
      | then-at-slots w ↦ w.at-is ∙ next_round before n c.loop.at c.requires i.at w.if-at-slots.true
      | else-at-slots w ↦ w.at-is ∙ next_inside before n c.loop.at i.at (let e = w.if-at-slots.false in omega arith)
    ] in
    record {
      run = hears_more c.runs_go_on.ensures (g.X.Receiver.held c.args.receiver.now) c.args.slots.now c.args.start c.loop.counter
          c.loop.at i.class i.lines i.selection i.at i.run c.step.ensures.step;
      value = next_more g.X.Receiver.next c.args.receiver.now c.loop.receiver c.step.new.self c.args.slots.now c.args.start c.loop.counter
          c.loop.at i.at i.value c.step.ensures.value;
      at = place ∙ ap (λ z. z % n) one_more;
      class = c.step.ensures.class ∙ i.class;
      lines = c.step.ensures.lines ∙ i.lines;
      selection = c.step.ensures.selection ∙ i.selection;
    }
