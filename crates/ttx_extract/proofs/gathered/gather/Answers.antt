use Rattle.std.proofs.Common.{◌≡◌, ap, ◌∙◌, subst, slice_get}
use Rattle.ttx_page.specs.Views.{page_of}
use Rattle.ttx_extract.proofs.Lists.{made_at}
use Rattle.ttx_extract.proofs.gathered.gather.Goals as goal

pub returns-in-Ok-gather_pages-clause-written : goal.returns-in-Ok-gather_pages-clause-written
returns-in-Ok-gather_pages-clause-written c = record {
  offset = c.in-Ok.ensures.offset;
  few = c.in-Ok-named_pages.ensures.few;
  subs = λ n id at.
      let own = made_at (λ p. (page_of p).id) c.in-Ok-named_pages.named.items n id (ap (λ ids. slice_get ids n) c.in-Ok-named_pages.ensures.pages ∙ at) in
      subst (λ i. i.sub ≡ 0x3f7f → ⊥) own.2 own.0.kept.sub;
}
