use Rattle.std.proofs.Common.{◌≡◌, ◌∙◌, ◌<◌, ◌≤◌, length, sym, ap, ap₂, arith, inr}
use Rattle.std.proofs.lemmas.Grind.{common_steps}
use Rattle.toml.specs.View.{view}
use Rattle.ttx_source.specs.Frames.{page_in}
use Rattle.ttx_source.specs.Services.{authored_at, with_page, next_page}
use Rattle.ttx_source.proofs.PageArray.{after_more, after_fault, after_end}
use Rattle.ttx_source.proofs.reader.with_pages.Goals as goal

pub returns-in-Err : goal.returns-in-Err
returns-in-Err c =
    let here : c.loop-index.index < length c.args.values.now = omega arith in
    let found = ap (λ v. next_page c.loop-index.service (view v)) (sym c.index-values-index.is) ∙ sym c.in-Err.ensures.value in
    inr (sym (c.loop-index.invariant.so_far ∙ after_fault _ _ _ _ _ here found))

pub loop-index-preserved : goal.loop-index-preserved
loop-index-preserved c =
    let here : c.loop-index.index < length c.args.values.now = omega arith in
    let found = ap (λ v. next_page c.loop-index.service (view v)) (sym c.index-values-index.is) ∙ sym c.in-Ok.ensures.value in
    let counted = c.loop-index.invariant.count in
    let added : c.add.new.self ≡ with_page c.loop-index.service (authored_at (page_in c.in-Ok.frame c.next_frame.new.rows) c.in-Ok.frame.often) =
    c.in-Ok-add.ensures.ok ∙ ap₂ (λ page often. with_page c.loop-index.service (authored_at page often)) c.page.ensures c.often.ensures in
    record {
      count = rw added (grind (arith, common_steps, counted));
      so_far = rw added (c.loop-index.invariant.so_far ∙ after_more _ _ _ _ _ here found);
    }

pub returns : goal.returns
returns c =
    let past : length c.args.values.now ≤ c.loop-index.index = omega arith in
    sym (c.loop-index.invariant.so_far ∙ after_end _ c.args.values.now c.loop-index.index past)
