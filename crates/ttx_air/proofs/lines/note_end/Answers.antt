use Rattle.ttx_air.proofs.AddedLines.{adds_both}
use Rattle.ttx_air.proofs.lines.note_end.Goals as goal

pub returns : goal.returns
returns g c = adds_both c.put_field.ensures c.put.ensures
