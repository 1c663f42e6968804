use Rattle.std.proofs.Common.{refl}
use Rattle.std.proofs.lemmas.Bool.{and_from, and_parts}
use Rattle.ttx_proof.proofs.seams.are_wrong_links.Goals as goal

pub returns : goal.returns
returns c = (
  (λ y. let w = c.is_wrong_slot.ensures.0 y in (w.1, (and_parts _ _ w.0).0, w.2)),
  (λ w. c.is_wrong_slot.ensures.1 (and_from _ _ w.1 refl, w.0, w.2)),
)
