use Rattle.ttx_air.proofs.AddedLines.{adds_both, adds_same}
use Rattle.ttx_air.proofs.lines.put_seconds.Goals as goal

pub returns : goal.returns
returns g c = adds_both c.put_number.ensures (adds_same c.hundredths.ensures c.put.ensures)
