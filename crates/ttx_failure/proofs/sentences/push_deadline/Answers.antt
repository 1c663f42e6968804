use Rattle.std.proofs.Common.{◌∙◌, ◌≡◌, ◌++◌, ◌*◌, ◌/◌, [], ap, length, string_bytes, subst, OnOk}
use Rattle.std.specs.Prelude.{codes, replicate, slice_index_or}
use Rattle.ttx_document.proofs.Joins.{joined, more}
use Rattle.ttx_failure.specs.Places.{place_text, slot_of_run, time_text}
use Rattle.ttx_failure.specs.Sentences.{deadline_text, limit_text, counted_text}
use Rattle.ttx_failure.proofs.sentences.push_deadline.Goals as goal

pub returns : goal.returns
unfolding deadline_text
returns c =
    joined c.push_counted.result _ _ _ (limit_text c.args.deadline ++ place_text c.args.tuned.now.lines (slot_of_run (length c.args.tuned.now.slots.now) c.args.tuned.now.start (c.args.deadline * c.args.tuned.now.lines))) (counted_text (c.args.deadline * c.args.tuned.now.lines) c.args.slots) (more _ _ _ (limit_text c.args.deadline) (place_text c.args.tuned.now.lines (slot_of_run (length c.args.tuned.now.slots.now) c.args.tuned.now.start (c.args.deadline * c.args.tuned.now.lines))) c.in_ok-push_limit.ensures (c.in_ok-push_place.ensures ∙ ap (λ s. string_bytes c.push_limit.new.text ++ place_text c.args.tuned.now.lines s) (c.slot_of_run.ensures.value ∙ ap (slot_of_run (length c.args.tuned.now.slots.now) c.args.tuned.now.start) c.limit_of-limit.ensures)))
    (subst (λ l. OnOk c.push_counted.result (string_bytes c.push_counted.new.text ≡ string_bytes c.push_place.new.text ++ counted_text l c.args.slots))
    c.limit_of-limit.ensures c.push_counted.ensures)
