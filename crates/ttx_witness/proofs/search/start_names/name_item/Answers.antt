use Rattle.std.proofs.Common.{subst}
use Rattle.ttx_witness.specs.search.Finding.{AddsEntry}
use Rattle.ttx_witness.specs.search.Surveys.{surveyed_page}
use Rattle.ttx_witness.proofs.search.start_names.name_item.Goals as goal

pub returns-clause-entries : goal.returns-clause-entries
returns-clause-entries c =
    let s = c.args.surveyed.now in
    subst (AddsEntry c.args.entries.now.items c.add_entry.new.entries.items (surveyed_page s).id c.args.item.now) c.in_ok-starts.ensures.starts
    (subst (λ id. AddsEntry c.args.entries.now.items c.add_entry.new.entries.items id c.args.item.now
    c.in_ok-starts.field-0.starts.items) c.id.ensures c.in_ok-add_entry.ensures)
