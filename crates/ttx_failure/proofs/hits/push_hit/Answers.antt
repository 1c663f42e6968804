use Rattle.std.proofs.Common.{◌∙◌, ◌≡◌, ◌++◌, ◌*◌, ◌/◌, [], ap, length, string_bytes, subst, OnOk}
use Rattle.std.specs.Prelude.{codes, replicate, slice_index_or}
use Rattle.ttx_document.proofs.Joins.{joined, more}
use Rattle.ttx_failure.specs.Places.{moment_text, slot_of_run}
use Rattle.ttx_failure.specs.Hits.{hit_text, slot_text}
use Rattle.ttx_failure.proofs.hits.push_hit.Goals as goal

pub returns : goal.returns
unfolding hit_text
returns c =
    joined c.push_slot.result _ _ _ (moment_text (length c.args.tuned.now.slots.now) c.args.tuned.now.lines c.args.tuned.now.start c.args.hit.index ++ codes ": ") (slot_text (slice_index_or c.args.tuned.now.slots.now (slot_of_run (length c.args.tuned.now.slots.now) c.args.tuned.now.start c.args.hit.index) []) c.args.hit) (more _ _ _ (moment_text (length c.args.tuned.now.slots.now) c.args.tuned.now.lines c.args.tuned.now.start c.args.hit.index) (codes ": ") c.in_ok-push_moment.ensures c.in_ok-push_words.ensures)
    (subst (λ s. OnOk c.push_slot.result (string_bytes c.push_slot.new.text ≡ string_bytes c.push_words.new.text
    ++ slot_text (slice_index_or c.args.tuned.now.slots.now s []) c.args.hit)) c.slot_of_run.ensures.value c.push_slot.ensures)
