use Rattle.std.proofs.Common.{◌≡◌, ◌+◌, ◌≤◌, suc, length, map, ap, sym, ◌∙◌, subst, arith}
use Rattle.std.proofs.lemmas.List.{length-map}
use Rattle.ttx_page.specs.Views.{page_of}
use Rattle.ttx_source.specs.PromiseViews.{promise_view}
use Rattle.ttx_carousel.specs.Layout.{turns_among, turns_at, greater}
use Rattle.ttx_numbers.proofs.NumberedPages.{value_there}
use Rattle.ttx_carousel.proofs.layout.turns.Goals as goal

pub loop-index-preserved : goal.loop-index-preserved
loop-index-preserved c =
    let i = c.loop-index.index in
    let pages = map page_of c.args.pages.now in
    let stays = map promise_view c.args.stays.now in
    let page = c.index-pages-index.result in
    let here = value_there c.args.pages.now i page c.loop-index-test.true c.index-pages-index.is in
    let next : i + 1 ≡ suc i = omega arith in
    let most = c.turns_of.ensures.few in
    record {
      value = subst (λ n. c.greater-turns.result ≡ turns_among pages stays n) (sym next)
          (c.greater-turns.ensures.value ∙ ap (λ n. greater n c.turns_of.result) c.loop-index.invariant.value
          ∙ ap (greater (turns_among pages stays i)) (c.turns_of.ensures.value ∙ ap (turns_at pages stays) (sym here)));
      some = let least = c.greater-turns.ensures.least in let one = c.loop-index.invariant.some in omega (arith, least, one);
      few = c.greater-turns.ensures.most 2001 c.loop-index.invariant.few (omega (arith, most, c.requires));
    }

pub returns-clause-value : goal.returns-clause-value
returns-clause-value c =
    let size = length-map c.args.pages.now page_of in
    let e : c.loop-index.index ≡ length (map page_of c.args.pages.now) =
    let a = c.loop-index.auto.index-end in let b = c.loop-index-test.false in omega (arith, size, a, b) in
    c.loop-index.invariant.value ∙ ap (turns_among (map page_of c.args.pages.now) (map promise_view c.args.stays.now)) e
