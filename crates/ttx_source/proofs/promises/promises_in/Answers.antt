use Rattle.std.proofs.Common.{◌+◌, ◌<◌, ◌≤◌, ◌∙◌, length, drop, ap, sym, arith, inr}
use Rattle.toml.specs.View.{view, items_view}
use Rattle.ttx_source.specs.KeyFaults.{key_name}
use Rattle.ttx_source.specs.Promises.{promise_in, promises_in}
use Rattle.ttx_source.proofs.PromiseArray.{promises_more, promises_fault, promises_end}
use Rattle.ttx_source.proofs.Sequences.{then}
use Rattle.ttx_source.proofs.promises.promises_in.Goals as goal

pub returns-in-Err : goal.returns-in-Err
returns-in-Err c =
    let here : c.loop-page.page < length c.args.values.now = omega arith in
    let found = ap (λ v. promise_in (key_name c.args.key) c.loop-page.page (view v)) (sym c.index-values-page.is) ∙ sym c.in-Err.ensures in
    inr (sym (c.loop-page.invariant ∙ promises_fault _ _ _ _ _ _ here found))

pub loop-page-preserved : goal.loop-page-preserved
loop-page-preserved c =
    let here : c.loop-page.page < length c.args.values.now = omega arith in
    let found = ap (λ v. promise_in (key_name c.args.key) c.loop-page.page (view v)) (sym c.index-values-page.is) ∙ sym c.in-Ok.ensures in
    c.loop-page.invariant ∙ promises_more _ _ _ _ _ _ here found
    ∙ ap (λ done. then done (promises_in (key_name c.args.key) (c.loop-page.page + 1) (items_view (drop (c.loop-page.page + 1) c.args.values.now))))
    (sym c.in-Ok-push_promise.ensures)

pub returns : goal.returns
returns c =
    let past : length c.args.values.now ≤ c.loop-page.page = omega arith in
    sym (c.loop-page.invariant ∙ promises_end _ _ c.args.values.now c.loop-page.page past)
