use Rattle.std.proofs.Common.{◌≡◌, ◌∙◌, ◌<◌, true, pos, sym, ap, subst}
use Rattle.std.proofs.lemmas.Bool.{both_ways}
use Rattle.ttx_cycle.specs.Cycles.{slots_of}
use Rattle.ttx_page.specs.Pages.{needed}
use Rattle.ttx_page.specs.Streams.{repeated}
use Rattle.ttx_page.specs.Views.{page_of}
use Rattle.ttx_witness.specs.sent.Collected.{item_number}
use Rattle.ttx_certify.proofs.PageByPage.{page_at, same_page}
use Rattle.ttx_subpages.proofs.ComingItems.{come_more}
use Rattle.ttx_subpages.proofs.lacks.missing_item.Goals as goal
use Rattle.ttx_subpages.proofs.lacks.missing_item.Goals.{else-needed-via-then-needed+else-not-comes, else-needed-via-else-needed}

pub returns-then-not-comes : goal.returns-then-not-comes
returns-then-not-comes c = λ p here.
    let v = c.args.sendings.now in
    let page = c.index-sendings-index.result in
    let same : page_of page ≡ p = same_page (page_of page) p (page_at v.pages.now c.args.index page c.requires.index c.index-sendings-index.is) here in
    record {
      seen = subst (λ x. needed x c.item_of-item.result ≡ true) same (ap (λ x. needed (page_of x) c.item_of-item.result) c.index-sendings-index.is ∙ sym c.needed.ensures ∙ c.if-needed.true);
      none = λ u. both_ways _ c.if-not-comes.true ((c.comes.ensures p here).1 u);
      others = λ other lt need. c.loop-number.invariant.come p here other (subst (λ n. item_number other < n) c.item_of-item.ensures.number lt) need;
    }

pub loop-number-preserved : goal.loop-number-preserved
loop-number-preserved c = record {
  come = λ p here.
      let v = c.args.sendings.now in
      let page = c.index-sendings-index.result in
      let same : page_of page ≡ p =
      same_page (page_of page) p (page_at v.pages.now c.args.index page c.requires.index c.index-sendings-index.is) here in
      come_more (repeated (slots_of v.cycle.now)) p v.lines (pos c.args.at) c.loop-number.number c.item_of-item.result c.item_of-item.ensures.item
      c.item_of-item.ensures.number (c.loop-number.invariant.come p here)
      (λ need. elim c.else-needed.branch [
        | else-needed-via-then-needed+else-not-comes w ↦ (w.comes.ensures p here).0 w.if-not-comes.false
        | else-needed-via-else-needed w ↦ absurd (both_ways _ w.if-needed.false
            (c.needed.ensures ∙ ap (λ x. needed (page_of x) c.item_of-item.result) (sym c.index-sendings-index.is)
            ∙ subst (λ x. needed x c.item_of-item.result ≡ true) (sym same) need))
      ]);
}
