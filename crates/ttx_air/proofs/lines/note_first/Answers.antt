use Rattle.ttx_air.proofs.AddedLines.{adds_both}
use Rattle.ttx_air.proofs.lines.note_first.Goals as goal

pub returns : goal.returns
returns g c = adds_both c.put_field.ensures (adds_both (adds_both (adds_both c.put.ensures c.put-2.ensures) c.put-3.ensures) c.put_edition.ensures)
