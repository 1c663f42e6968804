-- the table holds the bytes
use Rattle.std.proofs.Common.{◌∙◌, ap, get_or}
use Rattle.ttx_code.specs.declared.parity.TheConstants.{ODD_BYTES}
use Rattle.ttx_code.proofs.Parities.{odd_byte_at}
use Rattle.ttx_code.proofs.parity.odd.Goals as goal

pub returns : goal.returns
returns c = ap (λ i. get_or ODD_BYTES i 0) c.from.ensures ∙ odd_byte_at c.args.c c.requires
