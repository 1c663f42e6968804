use Rattle.std.proofs.Common.{◌≡◌, ◌*◌, length, ◌∙◌, arith}
use Rattle.std.proofs.lemmas.List.{length-map}
use Rattle.ttx_cycle.specs.Cycles.{slots_of, slots_of-IsCycle}
use Rattle.ttx_page.specs.Views.{page_of, ids_of}
use Rattle.ttx_witness.proofs.lemmas.sent.PageIndexes.{few_ids, ids_are}
use Rattle.ttx_witness.proofs.lemmas.sent.AllLists.{all_in_order, all_sent, all_within}
use Rattle.ttx_witness.proofs.sent.collection.collect_after.Goals as goal

pub overflow_cast-count : goal.overflow_cast-count
overflow_cast-count c =
    let ids = ids_of c.args.pages.now in
    let l = length-map c.args.pages.now (λ p. (page_of p).id) in
    let few = few_ids ids (ids_are c.pages_keep_their_rules.ensures c.args.pages.now) c.requires.distinct in
    omega arith

pub invariant_of-result : goal.invariant_of-result
invariant_of-result c =
    let ids = ids_of c.args.pages.now in
    let are = ids_are c.pages_keep_their_rules.ensures c.args.pages.now in
    let count : 26 * length c.args.pages.now ≡ 26 * length ids = let l = length-map c.args.pages.now (λ p. (page_of p).id) in omega arith in
    let lists = c.in_ok-fill_lists.ensures ids c.in_ok-index.ensures (c.in_ok-lists.ensures.count ∙ count) in
    record {
      within = all_within ids are (slots_of c.args.before.now) (slots_of-IsCycle c.args.before.now) (slots_of c.args.cycle.now)
          (slots_of-IsCycle c.args.cycle.now) c.args.lines c.fill_lists.new.lists.items lists;
      in_order = all_in_order ids are (slots_of c.args.before.now) (slots_of-IsCycle c.args.before.now) (slots_of c.args.cycle.now)
          (slots_of-IsCycle c.args.cycle.now) c.args.lines c.fill_lists.new.lists.items lists;
    }

pub returns : goal.returns
returns c =
    let ids = ids_of c.args.pages.now in
    let count : 26 * length c.args.pages.now ≡ 26 * length ids = let l = length-map c.args.pages.now (λ p. (page_of p).id) in omega arith in
    all_sent c.args.pages.now (ids_are c.pages_keep_their_rules.ensures c.args.pages.now) (slots_of c.args.before.now)
    (slots_of c.args.cycle.now) c.args.lines _
    (c.in_ok-fill_lists.ensures ids c.in_ok-index.ensures (c.in_ok-lists.ensures.count ∙ count))
