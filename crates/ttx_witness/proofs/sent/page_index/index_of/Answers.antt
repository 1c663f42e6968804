use Rattle.std.proofs.Common.{◌≡◌, Some, if◌then◌else◌, ◌==◌, nat_eq, length, ap, ◌∙◌, subst, arith}
use Rattle.std.specs.HashMap.{get}
use Rattle.std.proofs.lemmas.List.{length-map}
use Rattle.ttx_page.specs.Views.{page_of, ids_of}
use Rattle.ttx_witness.specs.sent.Collected.{key_of}
use Rattle.ttx_witness.proofs.lemmas.sent.PageIndexes.{IsIndexed, one_indexed, all_indexed, few_ids, ids_are, id_at}
use Rattle.ttx_witness.proofs.sent.page_index.index_of.Goals as goal

pub overflow_cast-count : goal.overflow_cast-count
overflow_cast-count c =
    let ids = ids_of c.args.pages.now in
    let l = length-map c.args.pages.now (λ p. (page_of p).id) in
    let few = few_ids ids (ids_are c.pages_keep_their_rules.ensures c.args.pages.now) c.requires.distinct in
    omega arith

pub loop-i-preserved : goal.loop-i-preserved
loop-i-preserved c =
    let pages = c.args.pages.now in
    let p = c.index-pages-i.result in
    let e : c.key.result ≡ key_of (page_of p).id = c.key.ensures ∙ ap key_of c.id.ensures in
    record {
      indexed = one_indexed (ids_of pages) (ids_are c.pages_keep_their_rules.ensures pages) c.requires.distinct c.loop-i.i
          (page_of p).id (get nat_eq c.loop-i.by_key) (get nat_eq c.insert.new.by_key)
          (id_at pages c.loop-i.i p (omega arith) c.index-pages-i.is)
          (λ q. c.in_ok-insert.ensures q ∙ ap (λ k. if k == q then Some c.loop-i.i else get nat_eq c.loop-i.by_key q) e)
          c.loop-i.invariant.indexed;
    }

pub returns : goal.returns
returns c =
    let pages = c.args.pages.now in
    let n : c.loop-i.i ≡ length (ids_of pages) = let l = length-map pages (λ p. (page_of p).id) in omega arith in
    all_indexed (ids_of pages) (ids_are c.pages_keep_their_rules.ensures pages) c.requires.distinct (get nat_eq c.loop-i.by_key)
    (subst (λ i. IsIndexed (ids_of pages) i (get nat_eq c.loop-i.by_key)) n c.loop-i.invariant.indexed)
