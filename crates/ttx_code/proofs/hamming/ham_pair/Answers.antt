use Rattle.std.proofs.Common.{◌∙◌, ap, arith, get_or, []}
use Rattle.ttx_code.specs.declared.hamming.TheConstants.{PAIRS}
use Rattle.ttx_code.proofs.Numbers.{pair_at}
use Rattle.ttx_code.proofs.hamming.ham_pair.Goals as goal

pub returns : goal.returns
returns c = ap (λ i. get_or PAIRS i []) c.from.ensures ∙ pair_at c.args.b (omega arith)
