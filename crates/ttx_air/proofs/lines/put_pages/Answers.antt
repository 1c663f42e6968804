use Rattle.ttx_air.proofs.AddedLines.{adds_both, adds_same}
use Rattle.ttx_air.proofs.lines.put_pages.Goals as goal

pub returns : goal.returns
returns g c = adds_both c.put_number.ensures (adds_same c.pages_word.ensures c.put.ensures)
