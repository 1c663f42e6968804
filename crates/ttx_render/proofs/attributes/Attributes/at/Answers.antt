use Rattle.std.proofs.Common.{sym, ap}
use Rattle.ttx_render.specs.Columns.{attributes_in}
use Rattle.ttx_render.proofs.attributes.Attributes.at.Goals as goal

pub returns-in-Steady : goal.returns-in-Steady
returns-in-Steady c = ap (λ sets. attributes_in sets c.args.self) (sym c.in-Steady.is)
