use Rattle.std.proofs.Common.{◌∙◌, ◌≡◌, ◌++◌, ◌*◌, ◌/◌, [], ap, length, string_bytes, subst, OnOk}
use Rattle.std.specs.Prelude.{codes, replicate, slice_index_or}
use Rattle.ttx_document.proofs.Joins.{joined, more}
use Rattle.ttx_failure.specs.Places.{moment_text, slot_of_run}
use Rattle.ttx_failure.specs.NamedPackets.{named}
use Rattle.ttx_packet.specs.Slots.{kind_of}
use Rattle.ttx_failure.specs.Choices.{choice_text, choice_words}
use Rattle.ttx_failure.proofs.choices.push_choice.Goals as goal

pub returns : goal.returns
unfolding choice_text
returns c =
    joined c.push_act.result _ _ _ (moment_text (length c.args.tuned.now.slots.now) c.args.tuned.now.lines c.args.tuned.now.start c.args.taken.index ++ codes ": ") (choice_words c.args.own (named (kind_of (slice_index_or c.args.tuned.now.slots.now (slot_of_run (length c.args.tuned.now.slots.now) c.args.tuned.now.start c.args.taken.index) []))) c.args.taken.age) (more _ _ _ (moment_text (length c.args.tuned.now.slots.now) c.args.tuned.now.lines c.args.tuned.now.start c.args.taken.index) (codes ": ") c.in_ok-push_moment.ensures c.in_ok-push_words.ensures)
    (subst (λ s. OnOk c.push_act.result (string_bytes c.push_act.new.text ≡ string_bytes c.push_words.new.text
    ++ choice_words c.args.own (named (kind_of (slice_index_or c.args.tuned.now.slots.now s []))) c.args.taken.age)) c.slot_of_run.ensures.value
    (subst (λ n. OnOk c.push_act.result (string_bytes c.push_act.new.text ≡ string_bytes c.push_words.new.text
    ++ choice_words c.args.own n c.args.taken.age)) c.named.ensures c.push_act.ensures))
