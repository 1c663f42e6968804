use Rattle.std.proofs.Common.{◌∙◌, ◌++◌, ap, length, string_bytes, subst, sym}
use Rattle.std.proofs.lemmas.List.Elements.{All-take}
use Rattle.ttx_document.proofs.Joins.{joined, more}
use Rattle.ttx_failure.specs.Hits.{AreBits, IsBit, hit_items}
use Rattle.ttx_failure.specs.Sentences.{hit_list}
use Rattle.ttx_failure.proofs.sentences.push_hit_list.Goals as goal

pub push_hit_items-requires : goal.push_hit_items-requires
push_hit_items-requires c = subst AreBits (sym c.first_hits.ensures) (All-take IsBit 20 c.args.hits.now c.requires)

pub returns : goal.returns
unfolding hit_list
returns c =
    let t = c.args.tuned.now in
    joined c.push_list_end.result _ _ _ _ _ (more _ _ _ _ _ (more _ _ _ _ _ c.in_ok-push_list_start.ensures
    (c.in_ok-push_hit_items.ensures ∙ ap (λ xs. string_bytes c.push_list_start.new.text
    ++ hit_items c.args.form t.slots.now (length t.slots.now) t.lines t.start xs) c.first_hits.ensures)) c.in_ok-push_rest.ensures)
    c.push_list_end.ensures
