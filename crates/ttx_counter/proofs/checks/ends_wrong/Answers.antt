use Rattle.std.proofs.Common.{◌≡◌, ◌∙◌, ap, ◌↔◌, true, subst, sym}
use Rattle.std.proofs.lemmas.Bool.{both_ways}
use Rattle.ttx_page.specs.Streams.{repeated}
use Rattle.ttx_page.specs.Views.{page_of, memory_of}
use Rattle.ttx_cycle.specs.Cycles.{slots_of}
use Rattle.ttx_certify.specs.Seen.{HasView}
use Rattle.ttx_receiver.specs.Tuning.{script_at, tuned_at}
use Rattle.ttx_counter.specs.Counters.{counter_run_of, selection_for}
use Rattle.ttx_counter.specs.Rule.{KeepsRule}
use Rattle.ttx_counter.proofs.ReceivedSlots.{judged}
use Rattle.ttx_counter.proofs.checks.ends_wrong.Goals as goal

pub returns-then-keeps : goal.returns-then-keeps
returns-then-keeps c =
    let s = repeated (slots_of c.args.cycle.now) in
    let k = c.args.counter.now in
    let p = page_of c.args.page.now in
    record {
      judged = λ rule. judged s c.args.keys.now p
          (counter_run_of k) c.is_wrong.result c.new-receiver.result c.hear_within_rule.new.receiver
          (c.in_ok-keeps.ensures.heard c.if-keeps.true)
          (c.new-receiver.ensures ∙ ap (λ sel. script_at (tuned_at sel k.lines (memory_of k.former)) c.deref.result.now)
          (c.selection_for-selection.ensures ∙ ap (selection_for k.any_sub) c.id.ensures)
          ∙ ap (script_at (tuned_at (selection_for k.any_sub p.id) k.lines (memory_of k.former))) c.deref.ensures.value)
          (subst (λ m. (c.is_wrong.result ≡ true) ↔ (HasView p m → ⊥)) c.memory.ensures c.is_wrong.ensures);
      keeps = λ _. subst (λ id. KeepsRule s id (counter_run_of k).start (counter_run_of k).slots
          (counter_run_of k).repeat c.args.keys.now) c.id-2.ensures (c.in_ok-keeps.ensures.kept.0 c.if-keeps.true);
    }

pub returns-else-keeps : goal.returns-else-keeps
returns-else-keeps c =
    let s = repeated (slots_of c.args.cycle.now) in
    let k = counter_run_of c.args.counter.now in
    record {
      judged = λ rule. absurd (both_ways _ c.if-keeps.false (c.in_ok-keeps.ensures.kept.1
          (subst (λ id. KeepsRule s id k.start k.slots k.repeat c.args.keys.now) (sym c.id-2.ensures) rule)));
      keeps = λ wrong. absurd (both_ways _ c.if-keeps.false wrong);
    }
