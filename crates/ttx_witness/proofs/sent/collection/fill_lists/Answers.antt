use Rattle.std.proofs.Common.{rules, ◌≡◌, ◌++◌, length, ap, ◌∙◌, subst, arith}
use Rattle.ttx_cycle.specs.Cycles.{slots_of}
use Rattle.ttx_page.specs.Streams.{repeated}
use Rattle.ttx_witness.specs.sent.ItemTransmissions.{entry_owner}
use Rattle.ttx_witness.specs.sent.Collected.{AreCollected, held, owner_for, place_of_item}
use Rattle.ttx_witness.proofs.lemmas.sent.AllLists.{owner_more, sent_more, nothing_sent, place_below}
use Rattle.ttx_witness.proofs.lemmas.sent.ItemPlaces.{placed_item}
use Rattle.std.proofs.lemmas.Option.{slice_get_within}
use Rattle.ttx_witness.proofs.sent.collection.fill_lists.Goals as goal

pub loop-j-init : goal.loop-j-init
loop-j-init c = record {
  owners = λ ids index. c.entry_owners-owners.ensures.owners ids c.slots-slots.result.now index;
  apart = c.entry_owners-owners.ensures.apart;
  lists = λ ids index count. record {
    count = count;
    each = λ i id item at is item_is. c.requires.empty (place_of_item i item)
        ∙ nothing_sent id c.args.lines item (repeated c.slots-slots.result.now) (entry_owner (slots_of c.args.before.now) id);
  };
}

pub loop-j-preserved : goal.loop-j-preserved
loop-j-preserved c =
    let cycle = c.slots-slots.result.now in
    let held_so = c.loop-j.invariant in
    record {
      owners = λ ids index i id at is.
          owner_more id cycle (entry_owner (slots_of c.args.before.now) id)
          (owner_for c.loop-j.owners i id) _ c.loop-j.j _ _ c.loop-j-test.true (search rules)
          (held_so.owners ids index i id at is) (c.note_owner.ensures.after ids _ (c.indexed_header-header.ensures ids index) i id at is);
      apart = λ ids index. c.note_owner.ensures.apart ids _ (c.indexed_header-header.ensures ids index) (held_so.apart ids index);
      lists = λ ids index count. record {
        count = c.in_ok-add_sent.ensures.count ∙ (held_so.lists ids index count).count;
        each = λ i id item at is item_is.
            sent_more id c.args.lines item cycle (entry_owner (slots_of c.args.before.now) id)
            (owner_for c.loop-j.owners i id) _ _ c.loop-j.j _ _ c.loop-j-test.true (search rules)
            (held_so.owners ids index i id at is)
            ((held_so.lists ids index count).each i id item at is item_is)
            (c.in_ok-add_sent.ensures.added (place_of_item i item)
            (let p = place_below i item (length ids) (slice_get_within ids i id at) item_is
            in let n = (held_so.lists ids index count).count in omega arith)
            ∙ ap (λ ts. held c.loop-j.lists.items (place_of_item i item) ++ ts)
            (placed_item i item item_is c.sent_in_slot-sent.result
            ∙ c.sent_in_slot-sent.ensures.sent ids (c.indexed_header-header.ensures ids index) (held_so.apart ids index) i id item at item_is));
      };
    }

pub returns : goal.returns
returns c = λ ids index count.
    let e = c.slots-slots.ensures.slots in
    let n : c.loop-j.j ≡ length c.slots-slots.result.now = omega (arith, c.loop-j-test.false) in
    subst (λ s. AreCollected ids (slots_of c.args.before.now) s c.args.lines (length s) c.loop-j.lists.items) e
    (subst (λ j. AreCollected ids (slots_of c.args.before.now) c.slots-slots.result.now c.args.lines j c.loop-j.lists.items) n
    (c.loop-j.invariant.lists ids index count))
