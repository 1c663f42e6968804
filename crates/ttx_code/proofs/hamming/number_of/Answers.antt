use Rattle.std.proofs.Common.{◌∙◌, ◌%◌, ap, arith, get_or}
use Rattle.ttx_code.specs.declared.hamming.TheConstants.{NUMBERS}
use Rattle.ttx_code.proofs.Numbers.{number_by_table}
use Rattle.ttx_code.proofs.hamming.number_of.Goals as goal

pub returns-clause-value : goal.returns-clause-value
returns-clause-value c = ap (λ i. get_or NUMBERS i 0 % 16) c.from.ensures ∙ number_by_table c.args.b (omega arith)
