use Rattle.std.proofs.Common.{◌≡◌, ◌<◌, ◌/◌, length, sym, ◌∙◌, subst, arith}
use Rattle.std.specs.List.{AllByRecursion}
use Rattle.ttx_witness.specs.runs.Tracks.{AreInOrder, IsWithin}
use Rattle.ttx_witness.specs.sent.Collected.{held, place_of_item, item_number}
use Rattle.ttx_witness.proofs.lemmas.sent.AllLists.{all_by_recursion, held_read}
use Rattle.ttx_witness.proofs.sent.collected.Collected.sent.Goals as goal

pub returns-clause-listed : goal.returns-clause-listed
returns-clause-listed c = λ cycle pages lines p a at.
    let below : c.args.index < length c.args.self.now.lists.items / 26 = let l = c.len.ensures in let t = c.if-index-len.false in omega arith in
    let number : c.from-number.result ≡ item_number c.args.item = let e = c.from-number.ensures in let f = c.item_number.ensures.value
    in omega arith in
    held_read c.args.self.now.lists.items c.args.index c.from-number.result c.args.item c.index.result.now c.as_slice.result.now
    c.as_slice.ensures number c.item_number.ensures.item below c.index.ensures
    ∙ a.each c.args.index p c.args.item at c.item_number.ensures.item

pub returns-clause-after : goal.returns-clause-after
returns-clause-after c = λ before cycle pages lines p a at.
    let below : c.args.index < length c.args.self.now.lists.items / 26 = let l = c.len.ensures in let t = c.if-index-len.false in omega arith in
    let number : c.from-number.result ≡ item_number c.args.item = let e = c.from-number.ensures in let f = c.item_number.ensures.value
    in omega arith in
    held_read c.args.self.now.lists.items c.args.index c.from-number.result c.args.item c.index.result.now c.as_slice.result.now
    c.as_slice.ensures number c.item_number.ensures.item below c.index.ensures
    ∙ a.each c.args.index p c.args.item at c.item_number.ensures.item

pub returns-clause-within : goal.returns-clause-within
returns-clause-within c =
    let below : c.args.index < length c.args.self.now.lists.items / 26 = let l = c.len.ensures in let t = c.if-index-len.false in omega arith in
    let number : c.from-number.result ≡ item_number c.args.item = let e = c.from-number.ensures in let f = c.item_number.ensures.value
    in omega arith in
    subst (AllByRecursion (IsWithin 65536))
    (sym (held_read c.args.self.now.lists.items c.args.index c.from-number.result c.args.item c.index.result.now c.as_slice.result.now
    c.as_slice.ensures number c.item_number.ensures.item below c.index.ensures))
    (all_by_recursion (IsWithin 65536) (held c.args.self.now.lists.items (place_of_item c.args.index c.args.item))
    (c.args.self.now.within (place_of_item c.args.index c.args.item)))

pub returns-clause-in_order : goal.returns-clause-in_order
returns-clause-in_order c =
    let below : c.args.index < length c.args.self.now.lists.items / 26 = let l = c.len.ensures in let t = c.if-index-len.false in omega arith in
    let number : c.from-number.result ≡ item_number c.args.item = let e = c.from-number.ensures in let f = c.item_number.ensures.value
    in omega arith in
    subst AreInOrder
    (sym (held_read c.args.self.now.lists.items c.args.index c.from-number.result c.args.item c.index.result.now c.as_slice.result.now
    c.as_slice.ensures number c.item_number.ensures.item below c.index.ensures))
    (c.args.self.now.in_order (place_of_item c.args.index c.args.item))
