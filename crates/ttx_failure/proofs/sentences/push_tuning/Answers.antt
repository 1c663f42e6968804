use Rattle.std.proofs.Common.{◌∙◌, ◌≡◌, ◌++◌, ◌*◌, ◌/◌, [], ap, length, string_bytes, subst, OnOk}
use Rattle.std.specs.Prelude.{codes, replicate, slice_index_or}
use Rattle.ttx_document.proofs.Joins.{joined, more}
use Rattle.ttx_failure.specs.Places.{place_text, slot_of_run, time_text}
use Rattle.ttx_failure.specs.Sentences.{tuning_text}
use Rattle.ttx_failure.proofs.sentences.push_tuning.Goals as goal

pub returns : goal.returns
unfolding tuning_text
returns c =
    joined c.push_words-2.result _ _ _ (codes "It is tuned at " ++ place_text c.args.tuned.now.lines (slot_of_run (length c.args.tuned.now.slots.now) c.args.tuned.now.start 0)) (codes " of the cycle.") (more _ _ _ (codes "It is tuned at ") (place_text c.args.tuned.now.lines (slot_of_run (length c.args.tuned.now.slots.now) c.args.tuned.now.start 0)) c.in_ok-push_words.ensures (c.in_ok-push_place.ensures ∙ ap (λ s. string_bytes c.push_words.new.text ++ place_text c.args.tuned.now.lines s) c.slot_of_run.ensures.value))
    c.push_words-2.ensures
