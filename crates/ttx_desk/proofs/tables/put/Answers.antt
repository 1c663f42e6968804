use Rattle.std.proofs.Common.{◌∙◌, ap}
use Rattle.toml.specs.View.{members_view, view, table_view}
use Rattle.ttx_desk.specs.Tables as rule
use Rattle.ttx_desk.proofs.Members.{members-put}
use Rattle.ttx_desk.proofs.tables.put.Goals as goal

pub returns : goal.returns
returns c =
    let entries = c.in_ok-insert.ensures.entries in
    ap members_view entries ∙ members-put c.args.table.now.entries c.in_ok-name.name c.args.value
    ∙ ap (λ k. rule.put k (view c.args.value) (table_view c.args.table.now)) c.in_ok-name.ensures.ok
