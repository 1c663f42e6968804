use Rattle.std.proofs.Common.{sym, ap}
use Rattle.ttx_render.specs.CellWords.{part_number}
use Rattle.ttx_render.proofs.cell_words.part_number.Goals as goal

pub returns-in-Lower-clause-number : goal.returns-in-Lower-clause-number
returns-in-Lower-clause-number c = ap part_number (sym c.in-Lower.is)
