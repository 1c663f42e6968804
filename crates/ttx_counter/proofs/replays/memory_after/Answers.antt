use Rattle.std.proofs.Common.{◌∙◌, ap}
use Rattle.ttx_page.specs.Streams.{repeated}
use Rattle.ttx_page.specs.Views.{page_of, memory_of}
use Rattle.ttx_cycle.specs.Cycles.{slots_of}
use Rattle.ttx_receiver.specs.Tuning.{script_at, tuned_at}
use Rattle.ttx_counter.specs.Counters.{counter_run_of, selection_for}
use Rattle.ttx_counter.proofs.ReplayedMemory.{left}
use Rattle.ttx_counter.proofs.replays.memory_after.Goals as goal

pub returns : goal.returns
returns c =
    let k = c.args.counter.now in
    let p = page_of c.args.page.now in
    left (repeated (slots_of c.args.cycle.now)) c.args.keys.now p (counter_run_of k) _ c.new-receiver.result c.hear.new.receiver c.hear.ensures
    (c.new-receiver.ensures ∙ ap (λ sel. script_at (tuned_at sel k.lines (memory_of k.former)) c.deref.result.now)
    (c.selection_for-selection.ensures ∙ ap (selection_for k.any_sub) c.id.ensures)
    ∙ ap (script_at (tuned_at (selection_for k.any_sub p.id) k.lines (memory_of k.former))) c.deref.ensures.value)
    c.memory.ensures
