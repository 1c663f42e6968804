use Rattle.std.proofs.Common.{◌≡◌, ◌∙◌, map, subst, ap, inr, Err}
use Rattle.ttx_promise.specs.Promises.{Answers}
use Rattle.ttx_promise.specs.Views.{late_view}
use Rattle.ttx_source.specs.PromiseViews.{promise_view}
use Rattle.ttx_press.specs.Refusals.{IsNoSpread, late_words}
use Rattle.ttx_press.proofs.SaidWords.{says_as}
use Rattle.ttx_press.proofs.planned_service.spread_plan.Goals as goal

pub returns-in-Err-Late-clause-refused : goal.returns-in-Err-Late-clause-refused
returns-in-Err-Late-clause-refused c =
    let promises = map promise_view c.args.promises.now in
    let sent = c.plan_promises.new.service in
    let pages = c.in-Err-Late.pages in
    let answered = subst (λ fault. Answers c.args.viewers promises c.args.service sent (Err fault)) c.in-Err-Late.field-0-is c.in-Err-Late.ensures in
    let shown : c.deref.result.now ≡ pages.items = cc (c.deref.ensures.value, c.in-Err-Late.pages-is) in
    says_as (λ said. said ≡ late_words (map late_view c.deref.result.now)) (IsNoSpread c.args.viewers c.args.service promises)
    c.refused_late.result
    (λ words said. inr (inr (record {
      sent = sent;
      raised = answered.1;
      cycle = answered.2.0;
      pages = map late_view pages.items;
      missed = answered.2.1;
      words_are = said ∙ ap (λ ps. late_words (map late_view ps)) shown;
    })))
    c.refused_late.ensures
