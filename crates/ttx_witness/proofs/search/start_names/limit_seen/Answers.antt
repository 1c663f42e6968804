use Rattle.std.proofs.Common.{rules, ◌≡◌, ◌∙◌, true, false, sym}
use Rattle.std.proofs.lemmas.Result.{IfOk-weaker}
use Rattle.std.proofs.lemmas.Bool.{cond-true, cond-false}
use Rattle.ttx_page.specs.declared.item.Item.TheVariants.{Head as TheHead}
use Rattle.ttx_witness.specs.search.Finding.{is_due}
use Rattle.ttx_witness.specs.search.Surveys.{surveyed_page, surveyed_least}
use Rattle.ttx_witness.proofs.search.start_names.limit_seen.Goals as goal

pub returns-then-is_due-clause-least : goal.returns-then-is_due-clause-least
returns-then-is_due-clause-least c =
    let s = c.args.surveyed.now in
    let item = c.args.item.now in
    let due : is_due s.survey.now.class (surveyed_page s) item ≡ true = search rules in
    IfOk-weaker c.item_limit.result _ _ (λ least tells.
    tells ∙ sym (cond-true (is_due s.survey.now.class (surveyed_page s) item) (surveyed_least s s.survey.now.repeat item)
    (surveyed_least s 1 TheHead) due)) c.item_limit.ensures.least

pub returns-else-is_due-clause-least : goal.returns-else-is_due-clause-least
returns-else-is_due-clause-least c =
    let s = c.args.surveyed.now in
    let item = c.args.item.now in
    let due : is_due s.survey.now.class (surveyed_page s) item ≡ false = search rules in
    IfOk-weaker c.header_limit.result _ _ (λ least tells.
    tells ∙ sym (cond-false (is_due s.survey.now.class (surveyed_page s) item) (surveyed_least s s.survey.now.repeat item)
    (surveyed_least s 1 TheHead) due)) c.header_limit.ensures.least
