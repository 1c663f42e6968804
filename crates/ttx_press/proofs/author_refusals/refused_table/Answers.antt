use Rattle.std.proofs.Common.{◌≡◌, ◌∙◌, [], codes, inl, inr, sym, subst}
use Rattle.toml.specs.View.{table_view}
use Rattle.ttx_desk.specs.Services.{service_table}
use Rattle.ttx_press.specs.AuthorRefusals.{IsFaulty, IsRefusalBy, IsTableWhy}
use Rattle.ttx_press.specs.Refusals.{Says}
use Rattle.ttx_press.proofs.SaidWords.{says_as}
use Rattle.ttx_press.proofs.author_refusals.refused_table.Goals as goal

pub returns-in-Mistakes : goal.returns-in-Mistakes
returns-in-Mistakes c =
    let author = table_view c.args.author.now in
    let why = subst (IsTableWhy author) c.in-Mistakes.is c.requires in
    subst (λ found. Says (IsRefusalBy c.args.text.now author found) c.refused_first.result) (c.as_slice.ensures.value ∙ why.0) c.refused_first.ensures

pub returns-in-Service : goal.returns-in-Service
returns-in-Service c =
    let text = c.args.text.now in
    let author = table_view c.args.author.now in
    let why = subst (IsTableWhy author) c.in-Service.is c.requires in
    subst (λ found. Says (IsRefusalBy text author found) c.refused_fault.result) (sym why.0)
    (says_as (IsFaulty text (service_table author)) (IsRefusalBy text author []) c.refused_fault.result (λ words is. inl is) c.refused_fault.ensures)

pub returns-in-Unsaid : goal.returns-in-Unsaid
returns-in-Unsaid c =
    let text = c.args.text.now in
    let author = table_view c.args.author.now in
    let none = subst (IsTableWhy author) c.in-Unsaid.is c.requires in
    subst (λ found. Says (IsRefusalBy text author found) c.refused.result) (sym none)
    (says_as (λ said. said ≡ codes "the service text would be read as another") (IsRefusalBy text author []) c.refused.result (λ words is. inr is)
    c.refused.ensures)
