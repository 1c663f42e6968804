use Rattle.std.proofs.Common.{◌≡◌, ◌∙◌, ℕ, ◌+◌, ◌-◌, ◌*◌, ◌/◌, ◌<◌, length, ap, subst, arith}
use Rattle.ttx_page.specs.Memories.{memory_of_page}
use Rattle.ttx_page.specs.Streams.{repeated}
use Rattle.ttx_page.specs.Views.{page_of}
use Rattle.ttx_cycle.specs.Cycles.{slots_of}
use Rattle.ttx_receiver.specs.Tuning.{tuned_at}
use Rattle.ttx_render.specs.View.{view_of}
use Rattle.ttx_counter.specs.Sources.{TellsWrong}
use Rattle.ttx_counter.proofs.PlainRuns.{runs_on}
use Rattle.ttx_counter.proofs.plain.plain_run.Goals as goal

whole_rest : (a n : ℕ) → 0 < n → a / n * n + (a - a / n * n) ≡ a
whole_rest a n some = omega arith

pub returns : goal.returns
returns c =
    let cycle = slots_of c.args.sorted.now.cycle.now in
    let p = page_of c.args.page.now in
    let low = c.args.low in
    let result = c.first_wrong.result in
    runs_on (λ lines sel former. TellsWrong cycle p lines sel former low (low + 2 * length cycle) result) c.args.lines c.args.selection
    (memory_of_page p)
    c.new-receiver.result c.settle.new.receiver c.advance.new.receiver (repeated cycle) _ _ low
    (c.new-receiver.ensures ∙ ap (tuned_at c.args.selection c.args.lines) c.of-own.ensures)
    c.settle.ensures.memory c.settle.ensures.selection c.settle.ensures.lines c.advance.ensures.memory c.advance.ensures.selection
    c.advance.ensures.lines
    (whole_rest low (length c.slots.result.now) c.slots.ensures.cycle.some)
    (λ e. subst (λ z. TellsWrong cycle p c.advance.new.receiver.lines c.advance.new.receiver.selection (memory_of_page p) low
    (low + 2 * length z) result) c.slots.ensures.slots
    (c.first_wrong.ensures p (memory_of_page p) (c.render.ensures ∙ ap view_of c.of-own.ensures) e))
