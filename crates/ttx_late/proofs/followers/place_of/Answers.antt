use Rattle.std.proofs.Common.{map, sym, ◌∙◌, arith}
use Rattle.std.proofs.lemmas.List.{length-map}
use Rattle.std.proofs.lemmas.Bool.{both_ways}
use Rattle.ttx_page.specs.Views.{page_of}
use Rattle.ttx_certify.proofs.PageByPage.{page_at}
use Rattle.ttx_late.proofs.FollowersOfCycles.{tested_is, tested_self, none_here, none_listed}
use Rattle.ttx_late.proofs.followers.place_of.Goals as goal

pub returns-then-eq : goal.returns-then-eq
returns-then-eq c = (
  page_of c.index-pages-index.result,
  page_at c.args.pages.now c.loop-index.index c.index-pages-index.result c.loop-index-test.true
      c.index-pages-index.is,
  sym c.id.ensures ∙ tested_is c.id.result c.args.id (sym c.eq.ensures ∙ c.if-eq.true),
)

pub loop-index-preserved : goal.loop-index-preserved
loop-index-preserved c = record {
  none = none_here (map page_of c.args.pages.now) c.args.id c.loop-index.index c.loop-index.invariant.none (page_of c.index-pages-index.result)
      (page_at c.args.pages.now c.loop-index.index c.index-pages-index.result c.loop-index-test.true c.index-pages-index.is)
      (λ e. both_ways _ c.if-eq.false (c.eq.ensures ∙ tested_self c.id.result c.args.id (c.id.ensures ∙ e)));
}

pub returns : goal.returns
returns c = none_listed (map page_of c.args.pages.now) c.args.id c.loop-index.index c.loop-index.invariant.none
    (let test = c.loop-index-test.false in omega (arith, length-map c.args.pages.now page_of))
