use Rattle.std.proofs.Common.{◌∙◌, ◌≡◌, ◌++◌, ◌*◌, ◌/◌, [], ap, length, string_bytes, subst, OnOk}
use Rattle.std.specs.Prelude.{codes, replicate, slice_index_or}
use Rattle.ttx_document.proofs.Joins.{joined, more}
use Rattle.ttx_failure.specs.Places.{moment_text, place_text, slot_of_run, time_text}
use Rattle.ttx_failure.proofs.places.push_moment.Goals as goal

pub returns : goal.returns
unfolding moment_text
returns c =
    joined c.push_words-2.result _ _ _ (place_text c.args.tuned.now.lines (slot_of_run (length c.args.tuned.now.slots.now) c.args.tuned.now.start c.args.n) ++ codes ", " ++ time_text (c.args.n / c.args.tuned.now.lines)) (codes " s after tuning") (more _ _ _ (place_text c.args.tuned.now.lines (slot_of_run (length c.args.tuned.now.slots.now) c.args.tuned.now.start c.args.n) ++ codes ", ") (time_text (c.args.n / c.args.tuned.now.lines)) (more _ _ _ (place_text c.args.tuned.now.lines (slot_of_run (length c.args.tuned.now.slots.now) c.args.tuned.now.start c.args.n)) (codes ", ") (c.in_ok-push_place.ensures ∙ ap (λ s. string_bytes c.args.text.now ++ place_text c.args.tuned.now.lines s) c.slot_of_run.ensures.value) c.in_ok-push_words.ensures) (c.in_ok-push_time.ensures ∙ ap (λ f. string_bytes c.push_words.new.text ++ time_text f) c.fields_of.ensures))
    c.push_words-2.ensures
