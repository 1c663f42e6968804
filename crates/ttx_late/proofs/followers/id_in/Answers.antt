use Rattle.std.proofs.Common.{Some, ap, sym, ◌∙◌}
use Rattle.ttx_late.proofs.FollowersOfCycles.{id_told, none_told}
use Rattle.ttx_late.proofs.followers.id_in.Goals as goal

pub returns-in-Some : goal.returns-in-Some
returns-in-Some c = ap Some (c.id.ensures.value ∙ ap (λ h. h.id) c.in-Some.ensures.1)
    ∙ sym (id_told c.args.slot.now c.is_slot.ensures c.headers_are_headers.ensures c.in-Some.ensures.0)

pub returns-in-None : goal.returns-in-None
returns-in-None c = sym (none_told c.args.slot.now c.is_slot.ensures c.headers_have_fields.ensures c.in-None.ensures)
