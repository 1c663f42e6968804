use Rattle.std.proofs.Common.{rules}
use Rattle.ttx_arguments.proofs.Numerals.{number_read}
use Rattle.ttx_arguments.proofs.values.numeral.Goals as goal

pub returns : goal.returns
returns c = search (rules, number_read)
