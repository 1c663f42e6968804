use Rattle.std.proofs.Common.{rules, ◌++◌, ◌∷◌, [], sym, ap, ◌∙◌, arith}
use Rattle.ttx_witness.specs.sent.Collected.{held}
use Rattle.ttx_witness.specs.sent.OneSlot.{placed_at}
use Rattle.ttx_witness.proofs.lemmas.sent.ListsInPlaces.{held_set}
use Rattle.ttx_witness.proofs.lemmas.sent.ItemPlaces.{placed_added}
use Rattle.ttx_witness.proofs.sent.collection.add_sent.Goals as goal

pub returns-clause-added : goal.returns-clause-added
returns-clause-added c = λ n lt.
    let lists = c.args.lists.now.items in
    let place = c.in-Some-place_in.place in
    let s = c.in-Some.sent in
    held_set lists place c.push_sent.new.list c.index_mut.result.now (s.transmission ∷ [])
    (let l = c.len.ensures in let lt = c.in-Some-place_in.ensures.0 in omega arith) (search rules) n
    ∙ placed_added place n s (held lists n) c.in-Some-place_in.ensures.1
    ∙ ap (λ x. held lists n ++ placed_at n x) (sym c.in-Some.is)
