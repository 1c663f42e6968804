use Rattle.std.proofs.Common.{◌∙◌, ap, arith}
use Rattle.std.specs.Int.{from_bool}
use Rattle.ttx_header.proofs.FlagBits.{bit_is_flag}
use Rattle.ttx_header.proofs.control.Control.option.Goals as goal

pub returns : goal.returns
returns c =
    let upper = c.from-upper.ensures ∙ ap from_bool (c.contains.ensures tt) ∙ bit_is_flag c.args.self.0 8 (omega arith) in
    let middle = c.from-middle.ensures ∙ ap from_bool (c.contains-2.ensures tt) ∙ bit_is_flag c.args.self.0 9 (omega arith) in
    let lower = c.from-lower.ensures ∙ ap from_bool (c.contains-3.ensures tt) ∙ bit_is_flag c.args.self.0 10 (omega arith) in
    omega (arith, upper, middle, lower)
