use Rattle.std.proofs.Common.{refl}
use Rattle.std.proofs.lemmas.Bool.{and_from, and_parts}
use Rattle.ttx_proof.proofs.last_blocks.brings_links.Goals as goal

pub returns : goal.returns
returns c = (
  (λ y. let w = c.brings.ensures.0 y in (w.1, (and_parts _ _ w.0).0)),
  (λ w. c.brings.ensures.1 (and_from _ _ w.1 refl, w.0)),
)
