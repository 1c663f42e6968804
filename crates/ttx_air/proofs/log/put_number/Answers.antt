use Rattle.std.proofs.Common.{◌∙◌}
use Rattle.ttx_air.proofs.AddedLines.{adds_same}
use Rattle.ttx_air.proofs.log.put_number.Goals as goal

pub returns : goal.returns
returns g c = adds_same (c.as_bytes.ensures.value ∙ c.format.ensures.text) c.put.ensures
