use Rattle.std.proofs.Common.{◌∙◌, ◌++◌, ap, length, string_bytes}
use Rattle.ttx_document.proofs.Joins.{joined, more}
use Rattle.ttx_failure.specs.Choices.{choice_items}
use Rattle.ttx_failure.specs.Sentences.{choice_list}
use Rattle.ttx_failure.proofs.sentences.push_choice_list.Goals as goal

pub returns : goal.returns
unfolding choice_list
returns c =
    let t = c.args.tuned.now in
    joined c.push_list_end.result _ _ _ _ _ (more _ _ _ _ _ (more _ _ _ _ _ c.in_ok-push_list_start.ensures
    (c.in_ok-push_choice_items.ensures ∙ ap (λ xs. string_bytes c.push_list_start.new.text
    ++ choice_items c.args.form c.args.own t.slots.now (length t.slots.now) t.lines t.start xs) c.first_choices.ensures))
    c.in_ok-push_rest.ensures) c.push_list_end.ensures
