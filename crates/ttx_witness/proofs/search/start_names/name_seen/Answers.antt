use Rattle.std.proofs.Common.{rules, ◌≡◌, ◌∙◌, [], true, false, sym, subst}
use Rattle.std.proofs.lemmas.Result.{IfOk-weaker, on_ok_weaker}
use Rattle.std.proofs.lemmas.Bool.{cond-true, cond-false}
use Rattle.ttx_page.specs.declared.item.Item.TheVariants.{Head as TheHead}
use Rattle.ttx_witness.specs.search.Finding.{is_due, AddsEntry}
use Rattle.ttx_witness.specs.search.Surveys.{surveyed_page, surveyed_starts, surveyed_least}
use Rattle.ttx_witness.proofs.search.start_names.name_seen.Goals as goal

pub returns-then-not-is_due-clause-least : goal.returns-then-not-is_due-clause-least
returns-then-not-is_due-clause-least c =
    let s = c.args.surveyed.now in
    let item = c.args.item.now in
    let due : is_due s.survey.now.class (surveyed_page s) item ≡ false = search rules in
    IfOk-weaker c.header_limit.result _ _ (λ least tells.
    tells ∙ sym (cond-false (is_due s.survey.now.class (surveyed_page s) item) (surveyed_least s s.survey.now.repeat item)
    (surveyed_least s 1 TheHead) due)) c.header_limit.ensures.least

pub returns-clause-entries : goal.returns-clause-entries
returns-clause-entries c =
    let s = c.args.surveyed.now in
    let item = c.args.item.now in
    let due : is_due s.survey.now.class (surveyed_page s) item ≡ true = search rules in
    on_ok_weaker c.name_item.result (λ tells.
    subst (AddsEntry c.args.entries.now.items c.name_item.new.entries.items (surveyed_page s).id item)
    (sym (cond-true (is_due s.survey.now.class (surveyed_page s) item) (surveyed_starts s s.survey.now.repeat item) [] due)) tells)
    c.name_item.ensures.entries

pub returns-clause-least : goal.returns-clause-least
returns-clause-least c =
    let s = c.args.surveyed.now in
    let item = c.args.item.now in
    let due : is_due s.survey.now.class (surveyed_page s) item ≡ true = search rules in
    IfOk-weaker c.name_item.result _ _ (λ least tells.
    tells ∙ sym (cond-true (is_due s.survey.now.class (surveyed_page s) item) (surveyed_least s s.survey.now.repeat item)
    (surveyed_least s 1 TheHead) due)) c.name_item.ensures.least
