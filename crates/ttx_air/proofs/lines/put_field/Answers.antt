use Rattle.ttx_air.proofs.AddedLines.{adds_both}
use Rattle.ttx_air.proofs.lines.put_field.Goals as goal

pub returns : goal.returns
returns g c = adds_both (adds_both (adds_both c.put.ensures c.put_number.ensures) c.put-2.ensures) c.put_time.ensures
