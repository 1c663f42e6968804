use Rattle.std.proofs.Common.{◌∙◌, ap, eqb}
use Rattle.ttx_code.proofs.Loads.{no_mask}
use Rattle.ttx_code.proofs.lanes.all_odd.Goals as goal

pub returns : goal.returns
returns c = ap (λ m. eqb m 0) c.even_mask.ensures ∙ no_mask c.args.bytes.now
