use Rattle.std.proofs.Common.{◌∙◌, arith}
use Rattle.ttx_header.proofs.FlagBits.{flag_is_bit}
use Rattle.ttx_header.proofs.control.Control.is_newsflash.Goals as goal

pub returns : goal.returns
returns c = c.contains.ensures tt ∙ flag_is_bit c.args.self.0 1 (omega arith)
