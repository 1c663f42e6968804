use Rattle.std.proofs.Common.{◌≡◌, subst, ◌∙◌}
use Rattle.std.proofs.lemmas.Option.{get_or_from_slice_get}
use Rattle.ttx_page.specs.Views.{page_of}
use Rattle.ttx_extract.proofs.Lists.{one_more}
use Rattle.ttx_extract.proofs.Stripped.{pushed_as}
use Rattle.ttx_extract.proofs.page_names.blank_pages.Goals as goal

pub loop-index-preserved : goal.loop-index-preserved
loop-index-preserved c =
    let ids = c.args.ids.now in
    let i = c.loop-index.index in
    let page = c.in-Some.page in
    let own = c.in-Some.ensures ∙ c.index-ids-index.is in
    record {
      pages = pushed_as (λ p. (page_of p).id) ids i _ c.loop-index.pages.items _ page c.loop-index-test.true c.loop-index.invariant.pages own
          c.in-Ok.ensures.items;
      subs = one_more (λ id. id.sub ≡ 0x3f7f → ⊥) ids i c.loop-index.invariant.subs
          (λ x at. subst (λ id. id.sub ≡ 0x3f7f → ⊥) (own ∙ get_or_from_slice_get ids i x _ at) page.kept.sub);
    }
