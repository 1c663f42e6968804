-- the table holds the code words
use Rattle.std.proofs.Common.{◌∙◌, ap, get_or}
use Rattle.ttx_code.specs.declared.hamming.TheConstants.{WORDS}
use Rattle.ttx_code.proofs.Numbers.{word_at}
use Rattle.ttx_code.proofs.hamming.ham.Goals as goal

pub returns : goal.returns
returns c = ap (λ i. get_or WORDS i 0) c.from.ensures ∙ word_at c.args.n c.requires
