use Rattle.std.proofs.Common.{ap, sym}
use Rattle.ttx_certificate.specs.ItemPlaces.{item_number}
use Rattle.ttx_certificate.proofs.item_numbers.item_number.Goals as goal

pub returns-in-Links-clause-value : goal.returns-in-Links-clause-value
returns-in-Links-clause-value c = ap item_number (sym c.in-Links.is)
