use Rattle.std.proofs.Common.{◌∙◌, ap, sym}
use Rattle.std.specs.List.{list_any}
use Rattle.ttx_header.specs.Ids.{same_id}
use Rattle.ttx_source.proofs.PageList.{same_length, authored_pages-ids, found_any}
use Rattle.ttx_source.proofs.services.Service.contains.Goals as goal

pub returns : goal.returns
returns c =
    let order = c.self.invariant.same_order in
    let ids = order ∙ sym (authored_pages-ids _ _ (same_length _ _ order)) in
    rw (← c.self.view_is) (c.contains_key.ensures ∙ found_any c.args.id _ ∙ ap (list_any (same_id c.args.id)) ids)
